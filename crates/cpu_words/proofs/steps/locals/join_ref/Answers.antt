use Rattle.std.proofs.Common.{ap, ℕ}
use Rattle.atomic_table.specs.Table.{Me}
use Rattle.cpu_words.specs.Common.{CpuView, ReferenceView, Logged, Seated}
use Rattle.cpu_words.proofs.by_cpu.Hands.{seat_joins_by}
use Rattle.cpu_words.proofs.steps.locals.join_ref.Goals as goal

pub returns-clause-event : goal.returns-clause-event
returns-clause-event c =
    seat_joins_by c.seat.inside.token.me.0.view _ c.args.seat.now.view _ c.reference.inside.token.me.0.view c.args.reference.view (ap (λ (s : Seated CpuView). s.view) c.seat.view_is)
    (ap (λ (s : Seated ReferenceView). s.view) c.reference.view_is) (ap (λ (m : Me ℕ Logged). m.0.view) c.join_seat.ensures.2) c.requires.cpu c.requires.may
