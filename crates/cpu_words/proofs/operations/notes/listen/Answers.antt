use mathlib.Core.Option.{none}
use Rattle.std.proofs.Common.{sym, ap, ◌∙◌, arith}
use Rattle.cpu_words.specs.Common.{Named, words_of, Seated, CpuHears, CpuView}
use Rattle.cpu_words.proofs.logs.Allowing.{allows_hearing}
use Rattle.cpu_words.proofs.seats.Notes.{own_hear_may}
use Rattle.cpu_words.proofs.operations.notes.listen.Goals as goal

pub load-requires : goal.load-requires
load-requires c =
    let same = sym (ap (λ (w : Named). w.settings) c.words.view_is) ∙ c.words.invariant.0 in
    let table = ap (λ (s : Seated CpuView). s.table) c.seat.view_is ∙ c.requires.table ∙ sym (ap (λ (w : Named). w.table) c.words.view_is) in (
      table,
      omega (arith, c.section_place.ensures.below, c.words.invariant.1, ap (λ (w : Named). words_of w.settings) c.words.view_is),
      allows_hearing _ _ c.args.seat.now.view _ _ _ _ CpuHears (record { slots = 0; word = 0; first = 0; second = 0; said = none }) same
          (sym (ap (λ (s : Seated CpuView). s.view) c.seat.view_is)) c.seat.invariant
          (own_hear_may _ c.args.seat.now.view _ _ c.requires.cpu.1 c.section_place.ensures.place c.requires.may),
    )
