-- What is told of a CPU without its share is told of it with that.
use Rattle.std.proofs.Common.{◌≡◌, ◌∙◌, Result, ap, sym, subst}
use Rattle.name_registry.specs.Types.{ReferenceView, Refusal}
use Rattle.cpu_words.specs.Common.{key_with}
use Rattle.passive_list.specs.Common.{OnCpu}
use Rattle.passive_list.proofs.Sharing.{shared, sharing}
use Rattle.name_registry.specs.Common.{GetsLocal, got_of, got_with}
use Rattle.name_registry.proofs.Counting.{gets_shared}
use Rattle.name_registry.proofs.registry.Registry.get_local.Goals.{in-Ok, in-Err}
use Rattle.name_registry.proofs.registry.Registry.get_local.Goals as goal

pub returns-clause-got : goal.returns-clause-got
returns-clause-got g c =
    let m = c.cpu.inside.share.amount in
    let own = shared m _ _ _ c.deref_mut.ensures.value c.cpu.view_is in
    let same : got_of c.get_local.result ≡ got_with c.match-get_local.result = elim c.match-get_local.branch [
      | in-Ok w ↦ ap got_of w.in-Ok.is ∙ sym (ap got_with w.result-is)
      | in-Err w ↦ ap got_of w.in-Err.is ∙ sym (ap got_with w.result-is)
    ] in
    subst (λ (p : OnCpu × Result ReferenceView Refusal). GetsLocal (key_with c.args.kind c.args.name.now) p.0 (sharing m c.get_local.new.cpu.cpu) p.1) (λ i. (own i, same i))
    (gets_shared m _ _ _ _ c.get_local.ensures.got)
