-- What the fast path found is written. What it didn't answer the rest does.
use Rattle.std.proofs.Common.{Option, Some, refl, sym, ap, subst, ◌∙◌}
use Rattle.passive_list.specs.Common.{OnPlainCpu, entry_seen}
use Rattle.name_registry.specs.LookingUp.{EntersAndFinds, HasEnteredInVain, found_or}
use Rattle.c_handles.specs.declared.values.answer.EntryAnswer.{EntryAnswer}
use Rattle.c_handles.specs.declared.values.plain.CEntry.{CEntry}
use Rattle.c_handles.specs.values.Texts.{entry_out}
use Rattle.c_calls.specs.Calls.{Puts}
use Rattle.c_calls.proofs.lookups.enter_find_key.Goals as goal

pub returns-in-Some-clause-call : goal.returns-in-Some-clause-call
returns-in-Some-clause-call c =
    let found = found_or (entry_seen c.args.key (Some c.in-Some.seen)) in
    let e = c.in-Some.ensures in
    record {
      r = found;
      number = ap (λ (r : EntryAnswer). r.number) c.answer.ensures ∙ c.put_seen-number.ensures.number;
      does = subst (λ (o : OnPlainCpu). EntersAndFinds c.args.key o.cpu c.enter_find_fast.new.cpu.cpu found) c.cpu.view_is e.finds;
      words = e.words ∙ ap (λ (o : OnPlainCpu). o.words) c.cpu.view_is;
      writes = subst (λ (v : Option CEntry). Puts entry_out found c.args.found.value v) (sym (ap (λ (r : EntryAnswer). r.place.value) c.answer.ensures)) c.put_seen-number.ensures.written;
    }

pub returns-clause-call : goal.returns-clause-call
returns-clause-call c =
    let e = c.in_default.ensures in
    c.enter_find_rest.ensures.call c.args.cpu.now (sym (e.words ∙ ap (λ (o : OnPlainCpu). o.words) c.cpu.view_is))
    (subst (λ (o : OnPlainCpu). HasEnteredInVain c.args.key o.cpu c.enter_find_fast.new.cpu.cpu) c.cpu.view_is (e.missed refl))
