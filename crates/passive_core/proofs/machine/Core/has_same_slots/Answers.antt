use Rattle.std.proofs.Common.{refl, rules}
use Rattle.std.proofs.lemmas.Slice.Eq.{slice_eq-Decides}
use Rattle.passive_core.proofs.machine.Core.has_same_slots.Goals as goal

pub are_same-requires-then-are_same-3 : goal.are_same-requires-then-are_same-3
are_same-requires-then-are_same-3 c = record { exact = λ x y. slice_eq-Decides (λ a b. search rules) x y _ refl }
