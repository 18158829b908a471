use Rattle.std.proofs.Common.{ℕ, ◌+◌, ◌-◌, ◌%◌, ◌^◌, refl}
use Rattle.cpu_words.proofs.logs.Allowing.{needs_hearing}
use Rattle.cpu_words.proofs.operations.hearing.subtract.Goals as goal

pub fetch_sub-requires : goal.fetch_sub-requires
fetch_sub-requires g c =
    needs_hearing _ _ _ _ _ _ _ _ _ _ (λ (n : ℕ). (n + (2 ^ 64 - c.args.k)) % 2 ^ 64) (λ (n : ℕ). n) g.T.Tale.does g.T.Tale.tells c.words.view_is c.words.invariant c.seat.view_is refl c.seat.invariant
    c.requires.table c.requires.place c.requires.own c.requires.quiet c.requires.may
