use mathlib.Core.Option.{none}
use Rattle.std.proofs.Common.{sym, ap, ◌∙◌, arith}
use Rattle.cpu_words.specs.Common.{Named, Seated, KeeperHears, KeeperView}
use Rattle.cpu_words.proofs.logs.Allowing.{allows_note_hearing}
use Rattle.cpu_words.proofs.seats.Notes.{hear_keeper_may}
use Rattle.cpu_words.proofs.operations.notes.hear_noted.Goals as goal

pub load-requires : goal.load-requires
load-requires c =
    let same = sym (ap (λ (w : Named). w.settings) c.words.view_is) ∙ c.words.invariant.0 in
    let table = ap (λ (s : Seated KeeperView). s.table) c.keeper.view_is ∙ c.requires.table ∙ sym (ap (λ (w : Named). w.table) c.words.view_is) in (
      table,
      (let w = c.words.invariant.1 in omega arith),
      allows_note_hearing _ _ _ _ _ _ _ KeeperHears (record { slots = 0; word = 0; first = 0; second = 0; said = none }) same
          (sym (ap (λ (s : Seated KeeperView). s.view) c.keeper.view_is)) c.keeper.invariant (hear_keeper_may _ _ c.requires.may),
    )
