use Rattle.std.proofs.Common.{ℕ, refl}
use Rattle.cpu_words.proofs.logs.Allowing.{needs_hearing}
use Rattle.cpu_words.proofs.operations.hearing.load.Goals as goal

pub load-requires : goal.load-requires
load-requires g c =
    needs_hearing _ _ _ _ _ _ _ _ _ _ (λ (n : ℕ). n) (λ (n : ℕ). n) g.T.Tale.does g.T.Tale.tells c.words.view_is c.words.invariant c.seat.view_is refl c.seat.invariant
    c.requires.table c.requires.place c.requires.own c.requires.quiet c.requires.may
