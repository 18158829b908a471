use Rattle.std.proofs.Common.{◌∙◌, ℕ, sym, ap, subst, arith}
use Rattle.passive_list.specs.Types.{Settings, Publish, Show, Done, KeeperView, Keeper}
use Rattle.protocol.specs.History.{rank_at}
use Rattle.cpu_words.specs.Common.{LeadsBelow, MayPublish, Makes, keeper_after_live}
use Rattle.passive_list.specs.Common.{keeper_after_publish}
use Rattle.passive_list.proofs.Attached.{attached_as, keeping_more, may_publish, published_is, leads_in, leads_within}
use Rattle.passive_list.proofs.publishing.publish_entry.Goals as goal

pub prepare-requires-clause-link : goal.prepare-requires-clause-link
prepare-requires-clause-link c =
    let k = c.args.seat.now.view in
    let rows = c.args.rows.now in
    let e = c.args.entry.now in
    let v = c.link_below-link.result in
    let asked = c.requires.may in
    let within = leads_within (rank_at k.history) k.slots e.number v (leads_in c.args.words.now.settings k rows e.number v asked.at asked.agree c.link_below-link.ensures) in
    omega (arith, within, asked.at.sized.slots, ap (λ (z : Settings). z.slots) asked.at.settings)

pub publish-requires-clause-may : goal.publish-requires-clause-may
publish-requires-clause-may c =
    let e = c.args.entry.now in (
      e,
      subst (λ (x : KeeperView). MayPublish x e.slot e) (sym c.prepare.ensures.prepared)
          (may_publish c.args.words.now.settings c.args.seat.now.view c.args.rows.now e c.link_below-link.result c.requires.may c.link_below-link.ensures),
    )

pub returns-clause-change : goal.returns-clause-change
returns-clause-change c =
    let a = c.args.words.now.settings in
    let k = c.args.seat.now.view in
    let rows = c.args.rows.now in
    let e = c.args.entry.now in
    let v = c.link_below-link.result in
    let asked = c.requires.may in
    let may = may_publish a k rows e v asked c.link_below-link.ensures in
    let is = published_is k c.prepare.new.seat.view c.publish.new.keeper.view e v c.prepare.ensures.prepared c.publish.ensures.change may in
    record {
      link = v;
      leads = subst (λ (n : ℕ). LeadsBelow (rank_at k.history) k.slots n v) asked.number (leads_in a k rows e.number v asked.at asked.agree c.link_below-link.ensures);
      made = subst (λ (x : KeeperView). Makes (Publish e.slot) Done (Keeper x) (Keeper (keeper_after_publish k e v))) c.prepare.ensures.prepared
          (subst (λ (x : KeeperView). Makes (Publish e.slot) Done (Keeper c.prepare.new.seat.view) (Keeper x)) is c.publish.ensures.step.event);
      shown = subst (λ (x : KeeperView). Makes (Show e.slot) Done (Keeper x) (Keeper c.show.new.keeper.view)) is c.show.ensures.step.event;
      view = c.show.ensures.change ∙ ap (λ (x : KeeperView). keeper_after_live x e.slot e.number) is;
    }

pub returns-clause-attached : goal.returns-clause-attached
returns-clause-attached c d keeps =
    let e = c.args.entry.now in
    let prepared = c.prepare.ensures.prepared in
    let first = attached_as c.args.seat.now.view c.prepare.new.seat.view e d c.publish.new.keeper.log (ap (λ (x : KeeperView). x.keeps) prepared) (ap (λ (x : KeeperView). x.history) prepared)
    c.requires.may.number (λ is. c.publish.ensures.attached d is) keeps in
    keeping_more e.slot e.number d c.publish.new.keeper.log c.show.new.keeper.log (_, sym c.show.ensures.step.log) first
