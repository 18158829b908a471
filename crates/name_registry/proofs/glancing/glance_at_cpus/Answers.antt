use Rattle.std.proofs.Common.{◌∙◌, Bool, false, ap, subst, arith, length-set}
use Rattle.std.proofs.lemmas.List.{get_or-set_other}
use Rattle.name_registry.specs.Types.{Settings}
use Rattle.registry_values.proofs.Fit.{ranges}
use Rattle.name_registry.specs.Common.{GlancesOnce, looking, word_of}
use Rattle.name_registry.proofs.Passed.{glances_more}
use Rattle.name_registry.proofs.glancing.glance_at_cpus.Goals as goal

pub loop-cpu-preserved : goal.loop-cpu-preserved
loop-cpu-preserved c =
    let l = c.loop-cpu in
    let e = c.glances.ensures in
    let few = (ranges c.args.keeper.now.words.settings c.settings-cpu-end.ensures.own.1.agree.view.fit).cpus in
    let once = subst (λ (b : Bool). GlancesOnce (word_of c.args.snapshots.now l.cpu) l.cpu b (looking l.keeper.keeper) c.glances.result (looking c.glances.new.keeper.keeper))
    (l.invariant.later l.cpu (omega arith)) e.looks in
    record {
      words = e.words ∙ l.invariant.words;
      slots = e.slots ∙ l.invariant.slots;
      looks = glances_more l.cpu c.glances.result c.args.snapshots.now c.args.seen.now l.seen (looking c.args.keeper.now.keeper) (looking l.keeper.keeper) (looking c.glances.new.keeper.keeper)
          (omega (arith, l.invariant.size, c.loop-cpu-test.true, ap (λ (z : Settings). z.cpus) c.settings-cpu-end.ensures.value, few)) l.invariant.looks once;
      later = λ d ge. get_or-set_other l.seen l.cpu d c.glances.result false (λ e. absurd (omega (arith, ge, e))) ∙ l.invariant.later d (omega (arith, ge));
      size = length-set l.seen l.cpu c.glances.result ∙ l.invariant.size;
    }
