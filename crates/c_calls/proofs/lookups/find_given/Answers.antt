-- What the fast path found is written. What it didn't answer the rest does. Outside any section nothing is looked up.
use Rattle.std.proofs.Common.{◌≡◌, ◌≢◌, Some, None, refl, sym, ap, subst, ◌∙◌}
use Rattle.std.proofs.lemmas.Bool.{false≢true}
use Rattle.passive_list.specs.Common.{OnPlainCpu, entry_seen}
use Rattle.name_registry.specs.LookingUp.{FindsFast, found_or}
use Rattle.c_handles.specs.declared.values.answer.EntryAnswer.{EntryAnswer}
use Rattle.c_handles.specs.values.Places.{put}
use Rattle.c_calls.specs.Calls.{IsFastFor, asked}
use Rattle.c_calls.proofs.Asked.{asks_good, finds_inside, finds_outside, written_by}
use Rattle.c_calls.proofs.lookups.find_given.Goals as goal

pub returns-then-not-inside-clause-call : goal.returns-then-not-inside-clause-call
returns-then-not-inside-clause-call c =
    let a = c.args.cpu.now in
    let not : a.cpu.view.begin ≢ None → ⊥ =
    λ some. false≢true (sym c.if-not-inside.true ∙ c.inside.ensures.1 (subst (λ (o : OnPlainCpu). o.cpu.view.begin ≢ None) (sym c.cpu.view_is) some)) in
    finds_outside c.args.kind c.args.given a a _ _ _ (ap (λ (r : EntryAnswer). r.number) c.answer.ensures ∙ c.why_not_found-number.ensures) not refl (ap (λ (r : EntryAnswer). r.place.value) c.answer.ensures)

pub returns-in-Some-clause-call : goal.returns-in-Some-clause-call
returns-in-Some-clause-call c =
    let a = c.args.cpu.now in
    let e = c.in-Some.ensures.looks in
    let key = e.0 in
    let within : a.cpu.view.begin ≢ None = subst (λ (o : OnPlainCpu). o.cpu.view.begin ≢ None) c.cpu.view_is (c.inside.ensures.0 c.if-not-inside.false) in
    finds_inside c.args.kind c.args.given a _ _ _ _ within (asks_good c.args.kind (Some c.args.given) key _ _ _ (asked c.args.kind (Some c.args.given)) refl e.1 (record {
      r = found_or (entry_seen key (Some c.in-Some.seen));
      number = ap (λ (r : EntryAnswer). r.number) c.answer-in-Some.ensures;
      does = e.2;
      words = e.3;
      writes = ap (λ (r : EntryAnswer). r.place.value) c.answer-in-Some.ensures ∙ c.put.ensures.value ∙ ap (put c.args.found.value) (c.entry_by.ensures ∙ written_by c.args.kind c.args.given key c.in-Some.seen e.1);
    }))

pub returns-clause-call : goal.returns-clause-call
returns-clause-call c =
    let a = c.args.cpu.now in
    let within : a.cpu.view.begin ≢ None = subst (λ (o : OnPlainCpu). o.cpu.view.begin ≢ None) c.cpu.view_is (c.inside.ensures.0 c.if-not-inside.false) in
    finds_inside c.args.kind c.args.given a _ _ _ _ within (c.find_rest.ensures.call a c.in_default.ensures.looks)
