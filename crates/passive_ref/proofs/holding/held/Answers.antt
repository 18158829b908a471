-- The CPU that names its own table is this one.
use Rattle.std.proofs.Common.{ℕ, ◌<◌, ◌↔◌, IsTrue, subst}
use Rattle.cpu_words.specs.Common.{references_to}
use Rattle.passive_list.specs.Common.{OnCpu}
use Rattle.passive_list.proofs.Sharing.{shared}
use Rattle.passive_ref.proofs.holding.held.Goals as goal

pub returns : goal.returns
returns g c = subst (λ (p : ℕ × OnCpu). IsTrue c.held_on.result ↔ 0 < references_to p.0 p.1.view.references) (λ i. (c.number.ensures i, shared _ _ _ _ c.deref.ensures c.cpu.view_is i)) c.held_on.ensures
