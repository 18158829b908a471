-- The CPU is inside, and acquires.
use Rattle.std.proofs.Common.{◌<◌, Ok, Err, refl, sym, ap, subst, ◌∙◌}
use Rattle.c_calls.specs.Types.{ReferenceView}
use Rattle.passive_list.specs.Common.{OnPlainCpu}
use Rattle.local_count.specs.{AcquiresEntryLocal}
use Rattle.local_count.specs.References.{OnPlainRef}
use Rattle.c_handles.specs.Bodies.{OnLocalBody}
use Rattle.c_handles.specs.OnHandle.{held_by}
use Rattle.c_calls.specs.LocalCalls.{AcquiresLocalInside}
use Rattle.c_calls.proofs.Counted.{acquires_err, acquires_ok}
use Rattle.c_calls.proofs.locals.acquire_inside.Goals as goal

pub returns-in-Ok : goal.returns-in-Ok
returns-in-Ok c =
    let here = c.cpu.view_is in
    let e = c.in-Ok.ensures in
    let g = c.give_acquired.ensures in
    record {
      r = Ok g.0;
      is = refl;
      answer = subst (λ (o : OnPlainCpu). AcquiresEntryLocal c.args.number c.args.key o.cpu c.acquire_entry_local.new.cpu.cpu (Ok g.0) (λ (v : OnLocalBody). v.reference)) here
          (acquires_ok _ _ _ _ c.in-Ok.reference g.0 (λ (v : OnPlainRef). v.reference) (λ (v : OnLocalBody). v.reference) (sym g.2) e.acquired);
      ours = (
        g.1 ∙ (e.table ∙ ap (λ (o : OnPlainCpu). o.words.table) here),
        subst (λ (v : ReferenceView). v.entry.slot < c.args.cpu.now.words.settings.slots) (sym g.2)
            (subst (λ (o : OnPlainCpu). c.in-Ok.reference.reference.entry.slot < o.words.settings.slots) here e.slot),
      );
      given = g.3;
      words = e.words ∙ ap (λ (o : OnPlainCpu). o.words) here;
    }

pub returns-in-Err : goal.returns-in-Err
returns-in-Err c =
    let here = c.cpu.view_is in
    let e = c.in-Err.ensures in
    subst (λ (b : OnPlainCpu). AcquiresLocalInside c.args.number c.args.key c.args.cpu.now b c.refused.result (held_by c.args.local.now)) (sym c.keep_room.ensures) (record {
      r = Err c.in-Err.refusal;
      is = c.refused.ensures;
      answer = subst (λ (o : OnPlainCpu). AcquiresEntryLocal c.args.number c.args.key o.cpu c.acquire_entry_local.new.cpu.cpu (Err c.in-Err.refusal) (λ (v : OnLocalBody). v.reference)) here
          (acquires_err _ _ _ _ c.in-Err.refusal (λ (v : OnPlainRef). v.reference) (λ (v : OnLocalBody). v.reference) e.acquired);
      ours = tt;
      given = c.requires.empty;
      words = e.words ∙ ap (λ (o : OnPlainCpu). o.words) here;
    })
