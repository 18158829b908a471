-- The CPU acquires by its last found entry.
use Rattle.std.proofs.Common.{◌≡◌, ◌≢◌, ◌<◌, ℕ, Option, Some, None, Ok, inl, inr, refl, sym, ap, subst, ◌∙◌}
use Rattle.c_calls.specs.Types.{Key, ReferenceView}
use Rattle.passive_list.specs.Common.{OnPlainCpu}
use Rattle.local_count.specs.{AcquiresEntryLocal}
use Rattle.local_count.specs.References.{OnPlainRef}
use Rattle.c_handles.specs.Bodies.{OnLocalBody}
use Rattle.c_handles.specs.OnHandle.{held_by}
use Rattle.c_handles.specs.declared.values.plain.CEntry.{CEntry}
use Rattle.c_handles.specs.declared.values.plain.TheConstants.{DONE}
use Rattle.c_handles.specs.values.Texts.{kind_given}
use Rattle.c_calls.specs.Calls.{Asks, asked}
use Rattle.c_calls.specs.LocalCalls.{AcquiresLocalFor, AcquiresLocalGiven, IsSameLocal}
use Rattle.c_calls.proofs.Asked.{asks_good}
use Rattle.c_calls.proofs.Counted.{acquires_ok}
use Rattle.c_calls.proofs.Handles.{no_body}
use Rattle.c_calls.proofs.locals.acquire_fast.Goals as goal

pub returns-in-Some-acquire_last_local-clause-done : goal.returns-in-Some-acquire_last_local-clause-done
returns-in-Some-acquire_last_local-clause-done c _ =
    let a = c.args.cpu.now in
    let b = c.acquire_last_local.new.cpu in
    let here : c.cpu.inside.cpu ≡ a = c.cpu.view_is ∙ c.take_kept.ensures in
    let e = c.in-Some-acquire_last_local.ensures in
    let reference = c.in-Some-acquire_last_local.reference in
    let within : a.cpu.view.begin ≢ None = subst (λ (o : OnPlainCpu). o.cpu.view.begin ≢ None) here e.inside in
    let g = c.give_acquired.ensures in
    let given = c.in-Some.entry in
    let key = c.in-Ok._key in
    let old = held_by c.args.local.now in
    let new = held_by c.give_acquired.new.local in
    let had : AcquiresLocalFor given.number key a b DONE old new = record {
      outside = λ none. absurd (within none);
      inside = λ _. inr (record {
        r = Ok g.0;
        is = refl;
        answer = subst (λ (o : OnPlainCpu). AcquiresEntryLocal given.number key o.cpu b.cpu (Ok g.0) (λ (v : OnLocalBody). v.reference)) here
            (acquires_ok _ _ _ _ reference g.0 (λ (v : OnPlainRef). v.reference) (λ (v : OnLocalBody). v.reference) (sym g.2) (inl e.acquired));
        ours = (
          g.1 ∙ (e.table ∙ ap (λ (o : OnPlainCpu). o.words.table) here),
          subst (λ (v : ReferenceView). v.entry.slot < a.words.settings.slots) (sym g.2) (subst (λ (o : OnPlainCpu). reference.reference.entry.slot < o.words.settings.slots) here e.slot),
        );
        given = g.3;
        words = e.words ∙ ap (λ (o : OnPlainCpu). o.words) here;
      });
    } in
    let asks : Asks (kind_given given) (Some given.name) DONE (IsSameLocal a b old new) (λ k. AcquiresLocalFor given.number k a b DONE old new) =
    asks_good (kind_given given) (Some given.name) key DONE (IsSameLocal a b old new) (λ (k : Key). AcquiresLocalFor given.number k a b DONE old new) c.asked.result
    (c.asked.ensures.value ∙ ap (λ (k : ℕ). asked k (Some given.name)) c.kind_given.ensures) c.in-Ok.is had in
    let none : old ≡ None = c.is_empty.ensures.empty c.if-not-is_empty.false in
    record { full = λ v some. absurd (no_body old v some none); empty = λ _. subst (λ (g : Option CEntry). AcquiresLocalGiven g a b DONE old new) (sym c.in-Some.is) asks }
