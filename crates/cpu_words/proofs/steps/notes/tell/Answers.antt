use Rattle.std.proofs.Common.{ap, ℕ}
use Rattle.atomic_table.specs.Table.{Me}
use Rattle.cpu_words.specs.Common.{CpuView, Logged, Seated}
use Rattle.cpu_words.proofs.seats.Notes.{cpu_splits_by}
use Rattle.cpu_words.proofs.steps.notes.tell.Goals as goal

pub returns-clause-event : goal.returns-clause-event
returns-clause-event c = cpu_splits_by c.seat.inside.token.me.0.view _ c.args.seat.now.view _ (ap (λ (s : Seated CpuView). s.view) c.seat.view_is)
    (ap (λ (m : Me ℕ Logged). m.0.view) c.split_seat.ensures.4) c.requires.cpu c.requires.may
