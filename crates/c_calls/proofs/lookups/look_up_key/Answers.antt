-- What the slow path found is written.
use Rattle.std.proofs.Common.{Option, sym, ap, subst, ◌∙◌}
use Rattle.std.proofs.lemmas.Bool.{false≢true}
use Rattle.passive_list.specs.Common.{OnPlainCpu, entry_seen}
use Rattle.name_registry.specs.LookingUp.{HasMissed, found_or, looked_up}
use Rattle.name_registry.proofs.LookedUp.{looked_nested}
use Rattle.c_handles.specs.declared.values.answer.EntryAnswer.{EntryAnswer}
use Rattle.c_handles.specs.declared.values.plain.CEntry.{CEntry}
use Rattle.c_handles.specs.values.Texts.{entry_out}
use Rattle.c_calls.specs.Calls.{Puts}
use Rattle.c_calls.proofs.lookups.look_up_key.Goals as goal

pub returns-then-may_begin_on-clause-call : goal.returns-then-may_begin_on-clause-call
returns-then-may_begin_on-clause-call c a same missed =
    let key = c.args.key in
    let found = found_or (entry_seen key c.look_up_anew-seen.result) in
    let e = c.look_up_anew-seen.ensures in
    record {
      r = found;
      number = ap (λ (r : EntryAnswer). r.number) c.answer.ensures ∙ c.put_seen-number.ensures.number;
      does = e.looks a.cpu (subst (λ (o : OnPlainCpu). HasMissed key a.cpu o.cpu) (sym c.cpu.view_is) missed);
      words = e.words ∙ ap (λ (o : OnPlainCpu). o.words) c.cpu.view_is ∙ sym same;
      writes = subst (λ (v : Option CEntry). Puts entry_out found c.args.found.value v) (sym (ap (λ (r : EntryAnswer). r.place.value) c.answer.ensures)) c.put_seen-number.ensures.written;
    }

pub returns-clause-call : goal.returns-clause-call
returns-clause-call c a same missed =
    let key = c.args.key in
    let found = looked_up key c.look_up_nested-looked.result in
    let e = c.look_up_nested-looked.ensures in
    let began = subst (λ (o : OnPlainCpu). HasMissed key a.cpu o.cpu) (sym c.cpu.view_is) missed in
    record {
      r = found;
      number = ap (λ (r : EntryAnswer). r.number) c.answer-2.ensures ∙ c.put_looked-number.ensures.number;
      does = looked_nested key a.cpu _ _ found began (λ may. false≢true (sym c.if-may_begin_on.false ∙ c.may_begin_on.ensures.1 may)) e.looks;
      words = e.words ∙ ap (λ (o : OnPlainCpu). o.words) c.cpu.view_is ∙ sym same;
      writes = subst (λ (v : Option CEntry). Puts entry_out found c.args.found.value v) (sym (ap (λ (r : EntryAnswer). r.place.value) c.answer-2.ensures)) c.put_looked-number.ensures.written;
    }
