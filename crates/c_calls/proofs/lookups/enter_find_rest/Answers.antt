-- What the slow path found is written.
use Rattle.std.proofs.Common.{Option, sym, ap, subst, ◌∙◌}
use Rattle.cpu_words.specs.Common.{key_with}
use Rattle.passive_list.specs.Common.{OnPlainCpu, entry_seen}
use Rattle.name_registry.specs.LookingUp.{HasEnteredInVain, found_or}
use Rattle.c_handles.specs.declared.values.answer.EntryAnswer.{EntryAnswer}
use Rattle.c_handles.specs.declared.values.plain.CEntry.{CEntry}
use Rattle.c_handles.specs.values.Texts.{entry_out}
use Rattle.c_calls.specs.Calls.{Puts}
use Rattle.c_calls.proofs.lookups.enter_find_rest.Goals as goal

pub returns-clause-call : goal.returns-clause-call
returns-clause-call c a same missed =
    let key = key_with c.args.kind c.args.name in
    let found = found_or (entry_seen key c.enter_find_slow-seen.result) in
    let e = c.enter_find_slow-seen.ensures in
    record {
      r = found;
      number = ap (λ (r : EntryAnswer). r.number) c.answer.ensures ∙ c.put_seen-number.ensures.number;
      does = e.finds a.cpu (subst (λ (o : OnPlainCpu). HasEnteredInVain key a.cpu o.cpu) (sym c.cpu.view_is) missed);
      words = e.words ∙ ap (λ (o : OnPlainCpu). o.words) c.cpu.view_is ∙ sym same;
      writes = subst (λ (v : Option CEntry). Puts entry_out found c.args.found.value v) (sym (ap (λ (r : EntryAnswer). r.place.value) c.answer.ensures)) c.put_seen-number.ensures.written;
    }
