-- What the lookup by the plain CPU tells, with the share beside it.
use Rattle.std.proofs.Common.{subst}
use Rattle.cpu_words.specs.Common.{key_with}
use Rattle.passive_list.specs.Common.{OnCpu}
use Rattle.passive_list.proofs.Sharing.{shared, sharing}
use Rattle.name_registry.specs.LookingUp.{LooksUp}
use Rattle.name_registry.proofs.LookedUp.{looks_up}
use Rattle.name_registry.proofs.registry.Registry.look_up.Goals as goal

pub returns : goal.returns
returns g c =
    let m = c.cpu.inside.share.amount in
    subst (λ (x : OnCpu). LooksUp (key_with c.args.kind c.args.name.now) x (sharing m c.look_up_in-looked.new.cpu.cpu) c.with_entry.result) (shared m _ _ _ c.deref_mut.ensures.value c.cpu.view_is)
    (looks_up m _ _ _ _ _ c.look_up_in-looked.ensures.looks c.with_entry.ensures)
