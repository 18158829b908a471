-- What the fast path found is written. What it didn't answer the rest does.
use Rattle.std.proofs.Common.{◌≢◌, Option, Some, None, refl, sym, ap, subst, ◌∙◌}
use Rattle.passive_list.specs.Common.{OnPlainCpu, entry_seen}
use Rattle.name_registry.specs.LookingUp.{LooksUp, LooksFast, found_or}
use Rattle.c_handles.specs.declared.values.answer.EntryAnswer.{EntryAnswer}
use Rattle.c_handles.specs.values.Places.{put}
use Rattle.c_calls.specs.Calls.{IsFastFor, LooksUpFor, asked}
use Rattle.c_calls.proofs.Asked.{asks_good, written_by}
use Rattle.c_calls.proofs.lookups.look_up_given.Goals as goal

pub returns-in-Some-clause-call : goal.returns-in-Some-clause-call
returns-in-Some-clause-call c =
    let e = c.in-Some.ensures.looks in
    let key = e.0 in
    let found = found_or (entry_seen key (Some c.in-Some.seen)) in
    asks_good c.args.kind (Some c.args.given) key _ _ _ (asked c.args.kind (Some c.args.given)) refl e.1 (record {
      r = found;
      number = ap (λ (r : EntryAnswer). r.number) c.answer.ensures;
      does = e.2;
      words = e.3;
      writes = ap (λ (r : EntryAnswer). r.place.value) c.answer.ensures ∙ c.put.ensures.value ∙ ap (put c.args.found.value) (c.entry_by.ensures ∙ written_by c.args.kind c.args.given key c.in-Some.seen e.1);
    })

pub returns-clause-call : goal.returns-clause-call
returns-clause-call c = c.look_up_rest.ensures.call c.args.cpu.now c.in_default.ensures.looks
