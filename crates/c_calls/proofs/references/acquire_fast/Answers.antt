-- What the acquire gave is written.
use Rattle.std.proofs.Common.{◌≡◌, ◌∙◌, ℕ, Option, Some, Ok, inl, refl, sym, ap, subst, rules}
use Rattle.c_calls.specs.Types.{Key}
use Rattle.passive_list.specs.Common.{OnPlainCpu}
use Rattle.c_handles.specs.declared.values.plain.CEntry.{CEntry}
use Rattle.c_handles.specs.declared.values.plain.CPassive.{CPassive}
use Rattle.c_handles.specs.declared.values.plain.TheConstants.{DONE}
use Rattle.c_handles.specs.values.Texts.{kind_given}
use Rattle.c_calls.specs.Calls.{Asks, asked}
use Rattle.c_calls.specs.References.{AcquiresFor, AcquiresGiven, IsSame}
use Rattle.c_calls.proofs.Asked.{asks_good}
use Rattle.c_calls.proofs.Passives.{acquired_into}
use Rattle.c_calls.proofs.references.acquire_fast.Goals as goal

pub returns-clause-done : goal.returns-clause-done
returns-clause-done c _ =
    let e = c.in-Some-acquire_last.ensures in
    let before = c.cpu.inside.cpu in
    let a = c.args.cpu.now in
    let b = c.acquire_last.new.cpu in
    let given = c.in-Some.entry in
    let key = c.in-Ok._key in
    let old = c.args.reference.now in
    let new : CPassive = record { entry = c.entry_again.result; cpu = c.from.result } in
    let own : c.from.result ≡ before.cpu.view.id = c.from.ensures ∙ c.cpu-2.ensures ∙ e.acquired.answer.1.2.cpu in
    let had : AcquiresFor given key a b DONE old new = subst (λ (o : OnPlainCpu). AcquiresFor given key o b DONE old new) c.cpu.view_is (record {
      outside = λ none. absurd (e.inside none);
      inside = λ _. acquired_into given key before b (Ok c.in-Some-acquire_last.psref) c.from.result DONE old new own refl (inl e.acquired) tt (λ i. record { entry = c.entry_again.ensures i; cpu = c.from.result }) e.words;
    }) in
    let asks : Asks (kind_given given) (Some given.name) DONE (IsSame a b old new) (λ k. AcquiresFor given k a b DONE old new) =
    asks_good (kind_given given) (Some given.name) key DONE (IsSame a b old new) (λ (k : Key). AcquiresFor given k a b DONE old new) c.asked.result
    (c.asked.ensures.value ∙ ap (λ (k : ℕ). asked k (Some given.name)) c.kind_given.ensures) c.in-Ok.is had in
    let free : old.entry.number ≡ 0 = search rules in
    record { full = λ full. absurd (full free); empty = λ _. subst (λ (g : Option CEntry). AcquiresGiven g a b DONE old new) (sym c.in-Some.is) asks }
