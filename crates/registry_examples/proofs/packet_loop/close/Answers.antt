-- `close`: the driver was freed by what the CPU knew, so in the last words it isn't live. They have the registry's settings, and the run has each free that the CPU knew of.
use Rattle.std.proofs.Common.{◌≡◌, ◌∙◌, List, [], ◌∷◌, ◌++◌, length, refl, ap, sym, subst, slice_index, length-append}
use mathlib.Core.Option.{some}
use lib.ListN.{get_elem?}
use Rattle.atomic_table.proofs.Lists.{at_last}
use Rattle.name_registry.specs.Types.{Settings}
use Rattle.cpu_words.specs.Common.{index, live_of}
use Rattle.passive_list.specs.Common.{OnCpu}
use Rattle.registry_examples.specs.{HasFreed}
use Rattle.registry_examples.proofs.Closed.{has_freed}
use Rattle.registry_examples.proofs.packet_loop.close.Goals as goal

pub returns-clause-gone : goal.returns-clause-gone
returns-clause-gone g c = λ same.
    let last = c.close_all.result in
    let x : OnCpu = c.args.cpu in
    let among : get_elem? c.push.new.self.items (length c.args.carriers.items) ≡ some x =
    ap (λ (xs : List OnCpu). get_elem? xs (length c.args.carriers.items)) c.in-Ok.ensures.items ∙ at_last c.args.carriers.items x (length c.args.carriers.items) refl in
    let here = subst (λ (z : Settings). slice_index last.words (index z (live_of c.args.driver.0)) ≡ c.args.driver.1) c.close_all.ensures.settings same in
    ((c.close_all.ensures.run.each (length c.args.carriers.items) x among).gone c.args.driver.0 c.args.driver.1 c.requires.gone).unlisted c.args.driver.0 c.requires.slot here

pub returns-clause-ran : goal.returns-clause-ran
returns-clause-ran g c =
    let last = c.close_all.result in
    let x : OnCpu = c.args.cpu in
    let xs : List OnCpu = c.push.new.self.items in
    let are : xs ≡ c.args.carriers.items ++ x ∷ [] = c.in-Ok.ensures.items in
    let run = c.close_all.ensures.run in
    let among : get_elem? xs (length c.args.carriers.items) ≡ some x =
    ap (λ (ys : List OnCpu). get_elem? ys (length c.args.carriers.items)) are ∙ at_last c.args.carriers.items x (length c.args.carriers.items) refl in
    let whole = (run.each (length c.args.carriers.items) x among).whole in
    let all : length xs ≡ g.D.Ledger.parts = ap (λ (ys : List OnCpu). length ys) are ∙ (length-append c.args.carriers.items (x ∷ []) ∙ c.requires.all) in
    λ n packets accounts few searched.
    let same = sym c.close_all.ensures.settings in
    subst (λ (z : Settings). HasFreed z last.words n packets) same (has_freed g.D.Domain.settings g.D.Ledger.parts c.args.carriers.items xs x last.words n packets are all run whole.known whole.seen c.requires.others accounts few searched)
