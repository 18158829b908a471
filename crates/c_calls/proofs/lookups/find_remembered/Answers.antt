-- What the CPU remembers by C's words is told of the key that they ask for.
use Rattle.std.proofs.Common.{ℕ, sym, ap, subst, ◌∙◌}
use Rattle.cpu_words.specs.Common.{key_with}
use Rattle.passive_list.specs.Common.{ByWord, IsOfNoKind, OnPlainCpu}
use Rattle.name_registry.specs.LookingUp.{FindsFast}
use Rattle.c_calls.proofs.Asked.{fast_by}
use Rattle.c_calls.proofs.lookups.find_remembered.Goals as goal

pub returns-clause-looks : goal.returns-clause-looks
returns-clause-looks c =
    let e = c.find_by.ensures in
    let name = c.in_ok-name.name in
    let found = c.find_by.result in
    let b = c.find_by.new.cpu in
    let tells = subst (λ (o : OnPlainCpu). ByWord c.from.result found (λ k s. FindsFast (key_with k name) o.cpu b.cpu s)) c.cpu.view_is e.looks in
    fast_by FindsFast c.args.kind c.args.given name c.args.cpu.now b found c.in_ok-name.ensures.value
    (subst (λ (w : ℕ). ByWord w found (λ k s. FindsFast (key_with k name) c.args.cpu.now.cpu b.cpu s)) c.from.ensures tells)
    (λ none. e.no_kind (subst IsOfNoKind (sym c.from.ensures) none) ∙ c.cpu.view_is) (e.words ∙ ap (λ (o : OnPlainCpu). o.words) c.cpu.view_is)
