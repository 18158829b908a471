-- The CPU gets a reference, which is put behind the handle.
use Rattle.std.proofs.Common.{◌≡◌, ◌<◌, Ok, Err, inr, refl, sym, ap, subst, ◌∙◌}
use Rattle.c_calls.specs.Types.{ReferenceView}
use Rattle.passive_list.specs.Common.{OnPlainCpu}
use Rattle.name_registry.specs.Common.{GetsLocal}
use Rattle.c_handles.specs.OnHandle.{held_by}
use Rattle.c_calls.specs.LocalCalls.{GetsLocalFor}
use Rattle.c_calls.proofs.locals.get_asked.Goals as goal

pub returns-in-Some : goal.returns-in-Some
returns-in-Some c =
    let here : c.cpu.inside.cpu ≡ c.args.cpu.now = c.cpu.view_is ∙ c.take_room.ensures in
    let e = c.in-Some.ensures in
    let is = c.of.ensures.1 in
    inr (record {
      r = Ok c.of.result;
      is = refl;
      gets = subst (λ (o : OnPlainCpu). GetsLocal c.args.key o.cpu c.get_local_or.new.cpu.cpu (Ok c.of.result.reference)) here
          (subst (λ (v : ReferenceView). GetsLocal c.args.key c.cpu.inside.cpu.cpu c.get_local_or.new.cpu.cpu (Ok v)) (sym is) e.got);
      ours = (
        c.of.ensures.0 ∙ (e.table ∙ ap (λ (o : OnPlainCpu). o.words.table) here),
        subst (λ (v : ReferenceView). v.entry.slot < c.args.cpu.now.words.settings.slots) (sym is)
            (subst (λ (o : OnPlainCpu). c.in-Some.reference.reference.entry.slot < o.words.settings.slots) here e.slot),
      );
      given = c.give.ensures;
      words = e.words ∙ ap (λ (o : OnPlainCpu). o.words) here;
    })

pub returns-in-None : goal.returns-in-None
returns-in-None c =
    let here : c.cpu.inside.cpu ≡ c.args.cpu.now = c.cpu.view_is ∙ c.take_room.ensures in
    let e = c.in-None.ensures in
    subst (λ (b : OnPlainCpu). GetsLocalFor c.args.key c.args.cpu.now b c.refused-in-None.result (held_by c.args.local.now) (held_by c.args.local.now)) (sym c.keep_room.ensures) (inr (record {
      r = Err c.get_local_or.new.why;
      is = c.refused-in-None.ensures;
      gets = subst (λ (o : OnPlainCpu). GetsLocal c.args.key o.cpu c.get_local_or.new.cpu.cpu (Err c.get_local_or.new.why)) here e.got;
      ours = tt;
      given = c.requires.empty;
      words = e.words ∙ ap (λ (o : OnPlainCpu). o.words) here;
    }))
