use prog.Atomic.{either}
use Rattle.std.proofs.Common.{ℕ, ◌==◌, refl}
use Rattle.cpu_words.proofs.logs.Allowing.{needs}
use Rattle.cpu_words.proofs.operations.by_seat.compare_exchange.Goals as goal

pub compare_exchange-requires : goal.compare_exchange-requires
compare_exchange-requires g c =
    needs g.V.SeatView.as_view g.V.SeatView.of_view _ _ _ _ _ _ _ _ _ _ (λ (n : ℕ). either (n == c.args.old) c.args.new n) g.T.Tale.does g.T.Tale.tells c.words.view_is c.words.invariant
    c.seat.view_is refl c.seat.invariant c.requires.table c.requires.place (g.V.SeatView.stands c.args.seat.now.view) c.requires.own c.requires.quiet c.requires.may
