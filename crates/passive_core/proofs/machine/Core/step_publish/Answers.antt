use Rattle.std.proofs.Common.{refl, sym, ◌∙◌}
use Rattle.passive_core.specs.Types.{Publish}
use Rattle.passive_core.proofs.Entering.{step_left}
use Rattle.passive_core.proofs.machine.Core.step_publish.Goals as goal

pub invariant_of-self-2 : goal.invariant_of-self-2
invariant_of-self-2 c =
    step_left (Publish c.args.t) c.self.view_is c.self.invariant (rw (sym c.in-Some.ensures, sym c.may_publish.ensures.value ∙ c.if-not-may_publish.false, c.in_ok-grow.ensures.ok, ← c.self.view_is))

pub returns : goal.returns
returns c =
    let name = sym c.names_lawfully.ensures ∙ c.if-not-names_lawfully.false in
    let test = sym c.may_publish.ensures.value ∙ c.if-not-may_publish.false in
    rw (name, sym c.in-Some.ensures, test, ← c.self.view_is, c.in_ok-grow.ensures.ok) refl
