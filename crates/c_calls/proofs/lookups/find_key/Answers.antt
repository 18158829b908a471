-- What the slow path found is written.
use Rattle.std.proofs.Common.{Option, None, sym, ap, subst, ◌∙◌}
use Rattle.passive_list.specs.Common.{HasRecalledByMemory, OnPlainCpu, entry_seen}
use Rattle.name_registry.specs.LookingUp.{found_or}
use Rattle.c_handles.specs.declared.values.answer.EntryAnswer.{EntryAnswer}
use Rattle.c_handles.specs.declared.values.plain.CEntry.{CEntry}
use Rattle.c_handles.specs.values.Texts.{entry_out}
use Rattle.c_calls.specs.Calls.{Puts}
use Rattle.c_calls.proofs.lookups.find_key.Goals as goal

pub returns-clause-call : goal.returns-clause-call
returns-clause-call c a same missed =
    let key = c.args.key in
    let found = found_or (entry_seen key c.find_slow-seen.result) in
    let e = c.find_slow-seen.ensures in
    record {
      r = found;
      number = ap (λ (r : EntryAnswer). r.number) c.answer.ensures ∙ c.put_seen-number.ensures.number;
      does = e.looks a.cpu (subst (λ (o : OnPlainCpu). HasRecalledByMemory key a.cpu o.cpu None) (sym c.cpu.view_is) missed);
      words = e.words ∙ ap (λ (o : OnPlainCpu). o.words) c.cpu.view_is ∙ sym same;
      writes = subst (λ (v : Option CEntry). Puts entry_out found c.args.found.value v) (sym (ap (λ (r : EntryAnswer). r.place.value) c.answer.ensures)) c.put_seen-number.ensures.written;
    }
