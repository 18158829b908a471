-- The CPU's words are the keeper's.
use Rattle.std.proofs.Common.{◌≡◌, sym, ap, subst, ◌∙◌, rules}
use Rattle.passive_list.specs.Common.{OnPlainCpu, OnPlainKeeper}
use Rattle.cpu_words.specs.Common.{Named}
use Rattle.c_calls.proofs.changes.replace_iface.Goals as goal

pub replace_iface_by_name_in-answer-requires-clause-cpu : goal.replace_iface_by_name_in-answer-requires-clause-cpu
replace_iface_by_name_in-answer-requires-clause-cpu c =
    let one = c.requires c.in-Some.k.now c.in-Some-body_mut.c.now c.in-Some.ensures.value c.in-Some-body_mut.ensures.value in
    let same : c.c.inside.cpu.words ≡ c.k.inside.keeper.words = ap (λ (o : OnPlainCpu). o.words) c.c.view_is ∙ (one ∙ sym (ap (λ (o : OnPlainKeeper). o.words) c.k.view_is)) in
    subst (λ (w : Named). (c.deref.result.now.table ≡ w.table) × (c.deref.result.now.settings ≡ w.settings)) (sym same) (search rules)
