-- What the get by the plain CPU tells, with the share beside it.
use Rattle.std.proofs.Common.{subst}
use Rattle.cpu_words.specs.Common.{key_with}
use Rattle.passive_list.specs.Common.{OnCpu}
use Rattle.passive_list.proofs.Sharing.{shared, sharing}
use Rattle.name_registry.specs.LookingUp.{Gets}
use Rattle.name_registry.proofs.LookedUp.{gets_so}
use Rattle.name_registry.proofs.registry.Registry.get.Goals as goal

pub returns : goal.returns
returns g c =
    let m = c.cpu.inside.share.amount in
    subst (λ (x : OnCpu). Gets (key_with c.args.kind c.args.name.now) x (sharing m c.get_in-got.new.cpu.cpu) c.with_entry_got.result) (shared m _ _ _ c.deref_mut.ensures.value c.cpu.view_is)
    (gets_so m _ _ _ _ _ c.get_in-got.ensures.gets c.with_entry_got.ensures)
