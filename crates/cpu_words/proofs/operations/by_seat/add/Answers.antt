use Rattle.std.proofs.Common.{ℕ, ◌+◌, ◌%◌, ◌^◌, refl}
use Rattle.cpu_words.proofs.logs.Allowing.{needs}
use Rattle.cpu_words.proofs.operations.by_seat.add.Goals as goal

pub fetch_add-requires : goal.fetch_add-requires
fetch_add-requires g c =
    needs g.V.SeatView.as_view g.V.SeatView.of_view _ _ _ _ _ _ _ _ _ _ (λ (n : ℕ). (n + c.args.k) % 2 ^ 64) g.T.Tale.does g.T.Tale.tells c.words.view_is c.words.invariant
    c.seat.view_is refl c.seat.invariant c.requires.table c.requires.place (g.V.SeatView.stands c.args.seat.now.view) c.requires.own c.requires.quiet c.requires.may
