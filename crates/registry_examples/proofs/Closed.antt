-- The end of the packet loop: its run frees a slot as often as the CPU knows, and no more often.
use Rattle.std.proofs.Common.{◌≡◌, ◌∙◌, ℕ, ◌*◌, ◌<◌, ◌≤◌, List, [], ◌∷◌, ◌++◌, length, refl, sym, ap, subst, arith, length-append}
use mathlib.Core.List.{IsPrefix}
use Rattle.name_registry.specs.Types.{Settings}
use Rattle.protocol.specs.Common.{IsLegal}
use Rattle.cpu_words.specs.Common.{part}
use Rattle.cpu_words.specs.declared.view.KeeperView.{KeeperView}
use Rattle.passive_list.specs.Common.{OnCpu}
use Rattle.name_registry.specs.Common.{ClosesRunOf, made_by, weigh}
use Rattle.registry_examples.specs.{Accounts, HasFreed, answered_by, frees_in}
use Rattle.registry_examples.proofs.Frees.{frees_grow}
use Rattle.registry_examples.proofs.Bound.{run_frees}
use Rattle.registry_examples.proofs.Accounted.{made_append, moves_few}
use Rattle.registry_examples.proofs.Searched.{answered_append}

pub has_freed : (z : Settings) (parts : ℕ) (others xs : List OnCpu) (x : OnCpu) (last : List ℕ) (n packets : ℕ) → xs ≡ others ++ x ∷ [] → length xs ≡ parts → (run : ClosesRunOf z parts xs last)
    → IsPrefix x.known_log run.log → IsPrefix x.view.pass run.keeper.history → made_by others ≡ 0 → Accounts (2 * n) x → n ≤ frees_in x.known_log
    → packets ≤ answered_by others → HasFreed z last n packets
has_freed z parts others xs x last n packets are all run known seen none accounts few searched =
    let some : 0 < parts = let long = ap length are in let size = length-append others (x ∷ []) in let one : length (x ∷ []) ≡ 1 = refl in omega (arith, all, long, size, one) in
    let made : weigh run.keeper.history ≡ x.made =
    let sum = run.made some all in
    let parts_sum = ap made_by are ∙ made_append others x in
    omega (arith, sum, parts_sum, none) in
    let legal : IsLegal run.keeper.history = subst IsLegal (sym (ap (λ (v : KeeperView). v.history) run.run.shown.is)) run.run.holds.legal in
    let most = moves_few (2 * n) x run.keeper.history accounts seen legal made in
    let freed = run_frees z run.keeper run.log last run.run in
    let least : n ≤ frees_in (part 0 run.run.acts) = let grown = frees_grow x.known_log run.log known in let same = ap frees_in run.run.keeper in omega (arith, few, grown, same) in
    let by_all = ap answered_by are ∙ answered_append others x in
    record { parts = parts; cpus = xs; all = all; run = run; times = omega (arith, most, freed, least); searched = omega (arith, searched, by_all) }
