use Rattle.std.proofs.Common.{ℕ, ap, subst, ◌∙◌}
use Rattle.protocol.specs.Common.{Holds, section_at}
use Rattle.registry_values.specs.Common.{is_out}
use Rattle.passive_core.proofs.Performing.{seen_out}
use Rattle.passive_core.proofs.machine.Core.is_seen.Goals as goal

pub returns-clause-seen : goal.returns-clause-seen
returns-clause-seen c =
    let s = c.args.self.now in
    let on : Holds s = subst Holds c.self.view_is c.self.invariant in
    c.is_out.ensures ∙ (ap (λ (w : ℕ). is_out w c.look_at.result) c.requires.word ∙ (ap (is_out (section_at s c.args.c)) c.look_at.ensures.word ∙ seen_out s c.args.c on))
