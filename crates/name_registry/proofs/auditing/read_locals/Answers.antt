-- One CPU more.
use Rattle.std.proofs.Common.{◌≡◌, ◌<◌, ◌^◌, ◌≤ℤ◌, ℤ, neg_ℤ, pos, of_z, to_z, w64, subst, length, map, take, refl, sym, ap, ◌∙◌, arith, get_or}
use Rattle.std.specs.Prelude.{IsSome}
use Rattle.std.proofs.lemmas.Int.{ints}
use Rattle.std.proofs.lemmas.List.{get_or-map, length-map, take_all}
use Rattle.name_registry.specs.Common.{local_met}
use Rattle.name_registry.proofs.Lent.{local_more, set_back, table_there}
use Rattle.name_registry.proofs.auditing.read_locals.Goals as goal

pub loop-c-init : goal.loop-c-init
loop-c-init g c = (refl, record { size = c.told-row; value = refl; range = λ i low. absurd (omega (arith, low)) })

pub local-requires-clause-there : goal.local-requires-clause-there
local-requires-clause-there g c =
    let table = g.C.ReachesCpu.table in
    let i = c.loop-c.invariant in
    let ls = c.loop-c.cpus in
    let k = c.loop-c.c in
    let lt : k < length ls = omega (arith, c.loop-c-test.true, ap length i.0) in
    subst IsSome (ap (λ us. get_or (map table us) k _) (sym i.0) ∙ table_there ls k c.index-cpus-c.result lt table)
    (c.requires.there k (omega (arith, lt, ap length i.0, length-map c.args.cpus.now table)))

pub loop-c-preserved : goal.loop-c-preserved
loop-c-preserved g c =
    let cpu = g.C.ReachesCpu.cpu in
    let i = c.loop-c.invariant in
    let ls = c.loop-c.cpus in
    let k = c.loop-c.c in
    let d = c.index-cpus-c.result in
    let one = get_or ls k d in
    let lt : k < length ls = omega (arith, c.loop-c-test.true, ap length i.0) in
    let size : length ls ≡ length c.args.cpus.now = ap length i.0 in
    let at : cpu one ≡ get_or (map cpu c.args.cpus.now) k (cpu one) = sym (get_or-map cpu ls k d (cpu one) lt) ∙ ap (λ us. get_or (map cpu us) k (cpu one)) i.0 in
    let same : to_z w64 (of_z w64 c.local.result) ≡ c.local.result = omega (arith, ints, c.local.type_inv) in (
      set_back ls k d lt c.local.new.lent c.local.ensures.same ∙ i.0,
      local_more c.args.keeper.now.keeper c.args.t c.args.number (map cpu c.args.cpus.now) k c.loop-c.row (cpu one) (to_z w64 (of_z w64 c.local.result)) (omega (arith, lt, size, c.requires.few))
          (omega (arith, lt, size, length-map c.args.cpus.now cpu)) at
          (same ∙ c.local.ensures.value) (subst (λ (z : ℤ). (neg_ℤ (pos (2 ^ 50)) ≤ℤ z) × (z ≤ℤ pos (2 ^ 50))) (sym same) c.local.ensures.range) i.1,
    )

pub returns : goal.returns
returns g c =
    let cpu = g.C.ReachesCpu.cpu in
    let i = c.loop-c.invariant in
    let first = c.args.cpus.now in
    let met = local_met c.args.keeper.now.keeper c.args.t c.args.number in
    let end : length first ≡ c.loop-c.c = omega (arith, c.loop-c-test.false, c.loop-c.auto.c-end) in
    record {
      cpus = i.0;
      value = ap (λ n. take n c.loop-c.row) end ∙ (i.1.value ∙ ap (map met) (take_all c.loop-c.c (map cpu first) (omega (arith, end, length-map first cpu))));
      range = λ k low. i.1.range k (omega (arith, low, end));
    }
