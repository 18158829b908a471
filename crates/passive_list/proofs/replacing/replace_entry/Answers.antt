-- Each step may be made by what the one before left, and all together they are a replacement.
use Rattle.std.proofs.Common.{◌≡◌, ◌*◌, ◌∙◌, refl, sym, ap, subst, arith}
use Rattle.passive_list.specs.Types.{Settings, KeeperView}
use Rattle.protocol.specs.History.{rank_at}
use Rattle.cpu_words.specs.Common.{keeper_after_live}
use Rattle.passive_list.specs.Common.{AreSnapshots, AreWritten, keeper_after_place}
use Rattle.passive_list.proofs.Attached.{attached_as, leads_within}
use Rattle.passive_list.proofs.Retired.{LeadsFrom, StandsBefore, before_read, leads_read}
use Rattle.passive_list.proofs.Replaced.{below_old, keeping_shown, logged_as, may_republish, may_show, placed_as, replaced_as, there}
use Rattle.passive_list.proofs.replacing.replace_entry.Goals.{After-slot_above-before, After-link_below-link, After-republish}
use Rattle.passive_list.proofs.replacing.replace_entry.Goals as goal

before : (c : After-slot_above-before) → StandsBefore c.args.rows.now c.args.old c.slot_above-before.result
before c = before_read c.args.rows.now c.args.rows.now c.args.old _ _ refl refl c.slot_above-before.ensures.before

leads : (c : After-link_below-link) → LeadsFrom c.args.rows.now c.args.old c.link_below-link.result
leads c = leads_read c.args.rows.now c.args.rows.now c.args.old _ _ refl refl c.link_below-link.ensures

-- the view once the event was made
placed : (c : After-republish) → c.republish.new.keeper.view ≡ keeper_after_place c.args.seat.now.view c.args.old c.requires.may.f c.args.entry.now c.link_below-link.result c.slot_above-before.result
placed c = placed_as _ _ _ _ _ _ _ _ _ _ c.requires.may c.prepare.ensures.prepared c.hide.ensures.change c.republish.ensures.change

pub prepare-requires-clause-link : goal.prepare-requires-clause-link
prepare-requires-clause-link c =
    let at = goal.at.prepare-requires-clause-link c in
    let k = c.args.seat.now.view in
    let asked = c.requires.may in
    let within = leads_within (rank_at k.history) k.slots (rank_at k.history asked.f.number) c.link_below-link.result (below_old _ k c.args.rows.now c.args.old c.args.entry.now _ asked (leads at.After-link_below-link)) in
    omega (arith, within, asked.at.sized.slots, ap (λ (z : Settings). z.slots) asked.at.settings)

pub republish-requires-clause-may : goal.republish-requires-clause-may
republish-requires-clause-may c =
    let at = goal.at.republish-requires-clause-may c in
    may_republish _ _ _ _ _ _ _ _ _ c.requires.may (before at.After-slot_above-before) (leads at.After-link_below-link) c.prepare.ensures.prepared c.hide.ensures.change

pub show-requires-clause-may : goal.show-requires-clause-may
show-requires-clause-may c =
    let at = goal.at.show-requires-clause-may c in
    may_show _ _ _ _ _ _ _ _ _ _ c.requires.may (placed at.After-republish) c.snapshots.ensures.taken.2

pub returns-clause-change : goal.returns-clause-change
returns-clause-change c =
    let at = goal.at.returns-clause-change c in
    let asked = c.requires.may in
    let taken = c.snapshots.ensures.taken in
    let own = c.settings-settings.ensures in
    let snapped = subst (λ (z : Settings). AreSnapshots z.cpus taken.0) own taken.1 in
    let written = subst (λ (z : Settings). AreWritten (c.args.old * z.cpus) z.cpus taken.0 c.args.marks.now c.snapshots.new.marks) own taken.3 in
    let has = replaced_as _ _ _ _ _ _ _ _ _ _ _ _ _ _ _ asked (before at.After-slot_above-before) (leads at.After-link_below-link) c.prepare.ensures.prepared c.hide.ensures.change (placed at.After-republish)
    snapped taken.2 c.show.ensures.change c.hide.ensures.step.event c.republish.ensures.step.event c.show.ensures.step.event written in
    (asked.f, (there _ _ _ _ _ asked).1, has.0, has.1)

pub returns-clause-log : goal.returns-clause-log
returns-clause-log c =
    let at = goal.at.returns-clause-log c in
    let asked = c.requires.may in
    let size = ap (λ (z : Settings). z.cpus) (c.settings-settings.ensures ∙ sym asked.at.settings) in
    logged_as _ _ _ _ _ _ _ _ _ _ _ _ (there _ _ _ _ _ asked).1 (below_old _ _ _ _ _ _ asked (leads at.After-link_below-link)) size
    c.prepare.ensures.log c.hide.ensures.step.log c.republish.ensures.step.log c.snapshots.ensures.log c.show.ensures.step.log

pub returns-clause-attached : goal.returns-clause-attached
returns-clause-attached c d keeps =
    let k = c.args.seat.now.view in
    let e = c.args.entry.now in
    let h = c.hide.new.keeper.view in
    let is = c.hide.ensures.change ∙ ap (λ (x : KeeperView). keeper_after_live x c.args.old 0) c.prepare.ensures.prepared in
    keeping_shown _ e.slot e.number d _ _ _ _ c.snapshots.ensures.log c.show.ensures.step.log
    (attached_as k h e d c.republish.new.keeper.log (ap (λ (x : KeeperView). x.keeps) is) (ap (λ (x : KeeperView). x.history) is) c.requires.may.number (λ is. c.republish.ensures.attached d is) keeps)
