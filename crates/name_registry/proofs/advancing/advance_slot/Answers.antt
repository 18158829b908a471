use Rattle.name_registry.proofs.Worked.{passive_after, settles_after, still_clear, still_passed, worked_more}
use Rattle.name_registry.proofs.advancing.advance_slot.Goals as goal

pub returns-in-Some-look_at_passive-clause-meets : goal.returns-in-Some-look_at_passive-clause-meets
returns-in-Some-look_at_passive-clause-meets c = passive_after c.args.keeper.now.keeper c.look_at_all.new.keeper.keeper c.look_at_passive.new.keeper.keeper c.args.slot c.in-Some-look_at_passive.cpu
    c.look_at_all.ensures.leaves c.in-Some-look_at_passive.ensures.met

pub returns-clause-meets : goal.returns-clause-meets
returns-clause-meets c =
    let a = c.args.keeper.now.keeper in
    let b = c.look_at_all.new.keeper.keeper in
    let d = c.look_at_passive.new.keeper.keeper in
    let m = c.collect_all.new.keeper.keeper in
    let t = c.args.slot in
    let n = c.args.words.now.settings.cpus in
    let looked = c.look_at_all.ensures.leaves.worked in
    let cleared = c.look_at_passive.ensures.leaves.worked in
    let collected = c.collect_all.ensures.leaves in
    settles_after c.args.words.now.settings a m c.settle.new.keeper.keeper t c.settle.result c.requires.works (worked_more a b m t looked (worked_more b d m t cleared collected))
    (still_passed d m t n collected (still_passed b d t n cleared (c.look_at_all.ensures.passed c.in_default.is)))
    (still_clear d m t n collected (c.look_at_passive.ensures.clear c.in_default-look_at_passive.is)) c.collect_all.ensures.collected c.settle.ensures.settles
