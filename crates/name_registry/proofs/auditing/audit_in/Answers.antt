-- What is said of all entries.
use Rattle.std.proofs.Common.{◌≡◌, ◌∙◌, List, Some, map, refl, sym, ap, subst, arith}
use Rattle.registry_values.proofs.Fit.{ranges}
use Rattle.cpu_words.specs.Common.{Named}
use Rattle.passive_list.specs.Common.{OnCpu}
use Rattle.name_registry.specs.Common.{AreAlike, AreOf, HasToldAll, HaveHeardAndTold, HaveLearned, tallies_met}
use Rattle.name_registry.proofs.Audits.{counts_met, places_met}
use Rattle.name_registry.proofs.Tallies.{audit_known, audit_right, known_keeper}
use Rattle.name_registry.proofs.Gathered.{audit_in_log, listened_none, tallies_learned}
use Rattle.name_registry.proofs.Lent.{all_lent, all_of, not_lent, of_cpus}
use Rattle.name_registry.proofs.auditing.audit_in.Given.{Over}
use Rattle.name_registry.proofs.auditing.audit_in.Goals as goal

abbrev named : (g : Over) → Named
named g = record { table = g.D.Domain.table; settings = g.D.Domain.settings }

pub returns-then-not-are_all-clause-notes : goal.returns-then-not-are_all-clause-notes
returns-then-not-are_all-clause-notes g c = λ all. absurd (not_lent (named g) _ _ c.args.cpus.now (c.are_all.ensures.no c.if-not-are_all.true) c.settings.ensures.value all)

pub returns-then-not-are_all-clause-told : goal.returns-then-not-are_all-clause-told
returns-then-not-are_all-clause-told g c = λ all. absurd (not_lent (named g) _ _ c.args.cpus.now (c.are_all.ensures.no c.if-not-are_all.true) c.settings.ensures.value all)

pub returns-then-not-are_all-clause-missing : goal.returns-then-not-are_all-clause-missing
returns-then-not-are_all-clause-missing g c = (λ _ all. not_lent (named g) _ _ c.args.cpus.now (c.are_all.ensures.no c.if-not-are_all.true) c.settings.ensures.value all, λ _. refl)

pub returns-then-not-are_all-clause-keeper : goal.returns-then-not-are_all-clause-keeper
returns-then-not-are_all-clause-keeper g c = listened_none c.args.keeper.now.keeper

pub gather-requires-clause-there : goal.gather-requires-clause-there
gather-requires-clause-there g c =
    let w = named g in
    let is : w ≡ c.args.keeper.now.words = λ i. record { table = sym c.requires.named.0 i; settings = sym c.requires.named.1 i } in
    subst (λ (v : Named). AreOf v (map (λ (x : OnCpu). Some w) c.are_all.new.cpus)) is (all_of w c.are_all.new.cpus)

pub returns-in-Ok-clause-notes : goal.returns-in-Ok-clause-notes
returns-in-Ok-clause-notes g c = λ _.
    of_cpus HaveHeardAndTold c.are_all.new.cpus c.gather.new.cpus c.args.cpus.now c.balances.new.cpus c.are_all.ensures.same (sym c.balances.ensures.cpus) c.gather.ensures.notes

pub returns-in-Err-clause-notes : goal.returns-in-Err-clause-notes
returns-in-Err-clause-notes g c = λ _.
    of_cpus HaveHeardAndTold c.are_all.new.cpus c.gather.new.cpus c.args.cpus.now c.balances.new.cpus c.are_all.ensures.same (sym c.balances.ensures.cpus) c.gather.ensures.notes

pub returns-in-Ok-clause-answer : goal.returns-in-Ok-clause-answer
returns-in-Ok-clause-answer g c =
    let k = c.args.keeper.now.keeper in
    let xs = c.args.cpus.now in
    let ys = c.gather.new.cpus in
    audit_right c.args.keeper.now.words.settings k xs ys c.in-Ok.list.items
    (known_keeper _ _ _ _ _ c.settings.ensures.own.1.agree c.settings.ensures.own.1.are) (all_lent (named g) _ _ xs (c.are_all.ensures.yes c.if-not-are_all.false) c.settings.ensures.value)
    (of_cpus (AreAlike k) c.are_all.new.cpus ys xs ys c.are_all.ensures.same refl c.gather.ensures.alike)
    (c.in-Ok.ensures.value
    ∙ tallies_learned _ _ xs ys c.gather.new.keeper.words.settings.slots c.gather.ensures.keeper
    (of_cpus HaveLearned c.are_all.new.cpus ys xs ys c.are_all.ensures.same refl c.gather.ensures.cpus)
    ∙ ap (λ (w : Named). tallies_met k xs w.settings.slots) c.gather.ensures.words)

pub returns-in-Ok-clause-places : goal.returns-in-Ok-clause-places
returns-in-Ok-clause-places g c =
    places_met c.args.keeper.now.keeper c.args.cpus.now c.args.keeper.now.words.settings.slots c.in-Ok.list.items (returns-in-Ok-clause-answer g c).met

pub returns-in-Ok-clause-locals : goal.returns-in-Ok-clause-locals
returns-in-Ok-clause-locals g c =
    counts_met c.args.keeper.now.keeper c.args.cpus.now _ c.args.keeper.now.words.settings.slots c.in-Ok.list.items
    (all_lent (named g) _ _ c.args.cpus.now (c.are_all.ensures.yes c.if-not-are_all.false) c.settings.ensures.value) (returns-in-Ok-clause-answer g c).met

pub returns-in-Ok-clause-known : goal.returns-in-Ok-clause-known
returns-in-Ok-clause-known g c =
    let k = c.args.keeper.now.keeper in
    let xs = c.args.cpus.now in
    let ys = c.balances.new.cpus in
    let answer = returns-in-Ok-clause-answer g c in
    audit_known c.args.keeper.now.words.settings k xs ys c.in-Ok.list.items answer.keeper
    (all_lent (named g) _ _ xs (c.are_all.ensures.yes c.if-not-are_all.false) c.settings.ensures.value)
    (of_cpus (AreAlike k) c.are_all.new.cpus c.gather.new.cpus xs ys c.are_all.ensures.same (sym c.balances.ensures.cpus) c.gather.ensures.alike) answer

pub returns-in-Ok-clause-log : goal.returns-in-Ok-clause-log
returns-in-Ok-clause-log g c =
    let z = c.args.keeper.now.words.settings in
    let k = c.args.keeper.now.keeper in
    let xs = c.args.cpus.now in
    let ys = c.balances.new.cpus in
    let was = c.are_all.ensures.same in
    let is = sym c.balances.ensures.cpus in
    let all = all_lent (named g) _ _ xs (c.are_all.ensures.yes c.if-not-are_all.false) c.settings.ensures.value in
    let learned = of_cpus HaveLearned c.are_all.new.cpus c.gather.new.cpus xs ys was is c.gather.ensures.cpus in
    let cpus = (ranges z (returns-in-Ok-clause-answer g c).keeper.view.fit).some_cpu in
    audit_in_log z k c.gather.new.keeper.keeper xs ys c.in-Ok.list.items (omega (arith, cpus, all.count, learned.size)) (returns-in-Ok-clause-known g c)
    (of_cpus (λ (us vs : List OnCpu). HasToldAll k vs c.gather.new.keeper.keeper) c.are_all.new.cpus c.gather.new.cpus xs ys was is c.gather.ensures.told)
