-- The entries of all slots, one after the other.
use Rattle.std.proofs.Common.{◌≡◌, ◌<◌, ℕ, List, get_or, length, map, refl, sym, ap, ◌∙◌, subst, arith}
use Rattle.name_registry.specs.Types.{Settings}
use Rattle.passive_list.specs.Common.{OnCpu}
use Rattle.name_registry.specs.Common.{AreThere, AreTold, WritesNext, occupied, tally_met}
use Rattle.name_registry.proofs.Lent.{has_place, none_told, place_fits, told_more}
use Rattle.name_registry.proofs.auditing.write_balances.Goals as goal

pub loop-t-init : goal.loop-t-init
loop-t-init g c = (refl, none_told _ _ _ _ _ refl)

pub write_next-at-requires : goal.write_next-at-requires
write_next-at-requires g c =
    let i = c.loop-t.invariant in
    let lt : c.loop-t.t < c.args.keeper.now.words.settings.slots = omega (arith, c.loop-t-test.true, ap (λ (z : Settings). z.slots) c.settings-t-end.ensures.value) in
    record {
      there = subst (λ us. AreThere (map g.C.ReachesCpu.table us)) (sym i.0) c.requires.there;
      few = omega (arith, ap length i.0, c.requires.few);
      room = λ e is. omega (arith, i.1.place, i.1.size, c.requires.room, has_place c.args.keeper.now.keeper c.loop-t.t c.args.keeper.now.words.settings.slots e lt is);
      fits = λ p low. subst (λ n. g.W.WritesBalance.fits n (get_or c.loop-t.list c.loop-t.at p)) (sym (ap length i.0))
          (place_fits (g.W.WritesBalance.fits (length c.args.cpus.now)) c.args.list.now c.loop-t.list c.loop-t.at c.requires.fits i.1.rest i.1.size p low);
    }

pub loop-t-preserved : goal.loop-t-preserved
loop-t-preserved g c =
    let z = c.args.keeper.now.words.settings in
    let k = c.args.keeper.now.keeper in
    let i = c.loop-t.invariant in
    let shown = g.W.WritesBalance.shown in
    let cpu = g.C.ReachesCpu.cpu in
    let said = λ (xs : List OnCpu) (n t : ℕ). g.W.WritesBalance.kept (tally_met k xs n t) in
    let lt : c.loop-t.t < z.slots = omega (arith, c.loop-t-test.true, ap (λ (a : Settings). a.slots) c.settings-t-end.ensures.value) in
    let next = subst (λ us. WritesNext shown (said (map cpu us)) k c.loop-t.t c.loop-t.at c.loop-t.list c.write_next-at.result c.write_next-at.new.list) i.0 c.write_next-at.ensures.next in
    (c.write_next-at.ensures.cpus ∙ i.0, told_more shown (said (map cpu c.args.cpus.now)) k c.loop-t.t z.slots _ _ c.args.list.now c.loop-t.list c.write_next-at.new.list lt c.requires.room next i.1)

pub returns : goal.returns
returns g c =
    let i = c.loop-t.invariant in
    let k = c.args.keeper.now.keeper in
    let end : c.loop-t.t ≡ c.args.keeper.now.words.settings.slots = omega (arith, c.loop-t-test.false, c.loop-t.auto.t-end, ap (λ (z : Settings). z.slots) c.settings-t-end.ensures.value) in
    record {
      cpus = i.0;
      list = subst (λ (p : ℕ × ℕ). AreTold g.W.WritesBalance.shown (λ n t. g.W.WritesBalance.kept (tally_met k (map g.C.ReachesCpu.cpu c.args.cpus.now) n t)) k p.0 p.1 c.args.list.now c.loop-t.list)
          (λ j. (end j, (i.1.place ∙ ap (occupied k) end) j)) i.1;
    }
