-- The ranges of settings that are fit.
use Rattle.std.proofs.Common.{◌≡◌, ℕ, ◌≤◌, true, ◌&&◌, nat_le, IsTrue, leb-true, arith}
use Rattle.std.proofs.lemmas.Bool.{and_parts}
use Rattle.std.proofs.lemmas.Bool.Decides.{nat_tests}
use Rattle.registry_values.specs.Common.{Settings, MOST_CHANGES, MOST_COUNT, MOST_CPUS, MOST_SECTIONS, MOST_SLOTS, is_within, are_sizes_fit, are_limits_fit, are_fit, are_usual}

pub record Ranges (z : Settings) : Type 0 where
  pub some_cpu : 1 ≤ z.cpus
  pub cpus : z.cpus ≤ MOST_CPUS
  pub some_slot : 1 ≤ z.slots
  pub slots : z.slots ≤ MOST_SLOTS
  pub changes : z.change_limit ≤ MOST_CHANGES
  pub sections : z.section_limit ≤ MOST_SECTIONS
  pub passive : z.passive_limit ≤ MOST_COUNT
  pub counts : z.count_limit ≤ MOST_COUNT

within : (least most number : ℕ) → is_within least most number ≡ true → (least ≤ number) × (number ≤ most)
within least most number is =
    let p = and_parts (nat_le least number) (nat_le number most) is in
    (leb-true least number p.0, leb-true number most p.1)

pub ranges : (z : Settings) → IsTrue (are_fit z) → Ranges z
ranges z fit =
    let p = and_parts (are_sizes_fit z) (are_limits_fit z) fit in
    let sizes = and_parts (is_within 1 MOST_CPUS z.cpus && is_within 1 MOST_SLOTS z.slots) (is_within 1 MOST_CHANGES z.change_limit) p.0 in
    let places = and_parts (is_within 1 MOST_CPUS z.cpus) (is_within 1 MOST_SLOTS z.slots) sizes.0 in
    let limits = and_parts (is_within 1 MOST_SECTIONS z.section_limit && is_within 1 MOST_COUNT z.passive_limit) (is_within 1 MOST_COUNT z.count_limit) p.1 in
    let first = and_parts (is_within 1 MOST_SECTIONS z.section_limit) (is_within 1 MOST_COUNT z.passive_limit) limits.0 in
    let cpus = within 1 MOST_CPUS z.cpus places.0 in
    let slots = within 1 MOST_SLOTS z.slots places.1 in
    record {
      some_cpu = cpus.0;
      cpus = cpus.1;
      some_slot = slots.0;
      slots = slots.1;
      changes = (within 1 MOST_CHANGES z.change_limit sizes.1).1;
      sections = (within 1 MOST_SECTIONS z.section_limit first.0).1;
      passive = (within 1 MOST_COUNT z.passive_limit first.1).1;
      counts = (within 1 MOST_COUNT z.count_limit limits.1).1;
    }

-- the usual ranges are within the capacity
pub usual_fits : (z : Settings) → IsTrue (are_usual z) → IsTrue (are_fit z)
usual_fits z usual = grind (arith, nat_tests, usual)
