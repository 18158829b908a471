-- There is a place for each entry, and all are written.
use Rattle.std.proofs.Common.{◌≡◌, ◌∙◌, ◌++◌, length, map, take, drop, ap, sym, arith, rules}
use Rattle.std.proofs.lemmas.List.{take_all, take_at}
use mathlib.Core.List.{map-id}
use Rattle.registry_values.specs.Common.{tally_shown}
use Rattle.cpu_words.specs.Common.{Named}
use Rattle.name_registry.specs.Common.{occupied, tallies_met}
use Rattle.name_registry.specs.Auditing.{IsOccupied}
use Rattle.name_registry.proofs.Lent.{all_of, of_there, some_occupied}
use Rattle.name_registry.proofs.auditing.balances.Goals as goal

pub returns-in_err-list-clause-wanted : goal.returns-in_err-list-clause-wanted
returns-in_err-list-clause-wanted g c =
    let there : IsOccupied c.args.keeper.now.keeper =
    some_occupied c.args.keeper.now.keeper c.args.keeper.now.words.settings.slots (omega (arith, c.in_err-list.ensures.wanted, c.count_entries.ensures)) in
    search rules

pub write_balances-requires-clause-there : goal.write_balances-requires-clause-there
write_balances-requires-clause-there g c =
    let w : Named = record { table = g.D.Domain.table; settings = g.D.Domain.settings } in
    of_there w _ (all_of w c.args.cpus.now)

pub returns-clause-value : goal.returns-clause-value
returns-clause-value g c =
    let k = c.args.keeper.now.keeper in
    let slots = c.args.keeper.now.words.settings.slots in
    let l = c.in_ok-list.list in
    let new = c.write_balances.new.list in
    let told = c.write_balances.ensures.list in
    let size : length new ≡ l.len = omega (arith, told.size, c.deref_mut.ensures.len) in
    let all : length new ≡ occupied k slots = omega (arith, told.size, ap length c.deref_mut.ensures.value, c.in_ok-list.ensures.count, c.count_entries.ensures) in
    ap (map tally_shown) (take_at new (drop (length new) l.items) l.len size ∙ sym (take_all (occupied k slots) new (omega (arith, all))))
    ∙ (told.met ∙ ap (λ xs. tallies_met k xs slots) (map-id c.args.cpus.now))
