-- What the fast path didn't answer the rest does.
use Rattle.std.proofs.Common.{◌≡◌, ℕ, refl, sym, ap, subst, ◌∙◌, rules}
use Rattle.c_calls.specs.Types.{Key}
use Rattle.passive_list.specs.Common.{OnPlainCpu}
use Rattle.name_registry.specs.LookingUp.{HasNotGot}
use Rattle.c_handles.specs.declared.values.answer.GivenNameAnswer.{GivenNameAnswer}
use Rattle.c_calls.specs.Calls.{Asks, asked}
use Rattle.c_calls.specs.References.{GetsFor, GetsInto, IsSame}
use Rattle.c_calls.proofs.Asked.{asks_good}
use Rattle.c_calls.proofs.Passives.{through_some}
use Rattle.c_calls.proofs.references.get.Goals as goal

pub returns-clause-call : goal.returns-clause-call
returns-clause-call c =
    let e = c.in_default-get_fast.ensures in
    let a = c.in-Some.body.now in
    let rest = c.get_rest-number in
    let b = rest.new.cpu in
    let key = c.in-Ok.key in
    let old = c.args.reference.now in
    let new = rest.new.reference in
    let n = c.answer-2.result.number in
    let had : GetsFor key a b rest.result old new = rest.ensures a (sym (e.words ∙ ap (λ (o : OnPlainCpu). o.words) c.body.view_is)) (subst (λ (o : OnPlainCpu). HasNotGot key o.cpu c.get_fast.new.cpu.cpu) c.body.view_is (e.missed refl)) in
    let number : n ≡ rest.result = ap (λ (r : GivenNameAnswer). r.number) c.answer-2.ensures in
    let asks : Asks c.args.kind c.args.name.name n (IsSame a b old new) (λ k. GetsFor k a b n old new) =
    asks_good c.args.kind c.args.name.name key n (IsSame a b old new) (λ (k : Key). GetsFor k a b n old new) (asked c.args.kind c.args.name.name) refl (ap (asked c.args.kind) (sym c.name.ensures.1) ∙ sym c.in-Ok.ensures.value)
    (subst (λ (k : ℕ). GetsFor key a b k old new) (sym number) had) in
    let free : old.entry.number ≡ 0 = search rules in
    through_some c.args.cpu.now.body a b n (new ≡ old) (λ x y. GetsInto c.args.kind c.args.name.name x y n old new) c.in-Some.ensures.value (record { full = λ full. absurd (full free); empty = λ _. asks })
