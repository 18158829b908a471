use Rattle.passive_core.specs.Types.{Slot}
use Rattle.std.proofs.Common.{◌≡◌, ◌≢◌, ℕ, zero, suc, refl, ◌∙◌}
use Rattle.protocol.specs.Common.{is_honest, has_live}
use Rattle.passive_core.proofs.machine.recalls.is_honest.Goals as goal

by_number : (n : ℕ) (x : Slot) → n ≢ 0 → has_live n x ≡ is_honest n x
by_number zero x some = absurd (some refl)
by_number (suc n) x some = refl

pub returns : goal.returns
returns c = c.has_live.ensures ∙ by_number c.args.word c.args.slot c.if-word-eq0.false
