use Rattle.std.proofs.Common.{ℕ, refl}
use Rattle.cpu_words.proofs.logs.Allowing.{needs_hearing}
use Rattle.cpu_words.proofs.operations.hearing.store.Goals as goal

pub store-requires : goal.store-requires
store-requires g c =
    needs_hearing _ _ _ _ _ _ _ _ _ _ (λ (n : ℕ). c.args.value) (λ (n : ℕ). c.args.value) g.T.Tale.does g.T.Tale.tells c.words.view_is c.words.invariant c.seat.view_is refl c.seat.invariant
    c.requires.table c.requires.place (λ n. c.requires.own c.args.value) (λ n. c.requires.quiet c.args.value) c.requires.may
