-- What an audit answers at each test.
use Rattle.std.proofs.Common.{◌≡◌, ℕ, List, length, map, refl, sym, ap, ◌∙◌, subst, arith}
use Rattle.std.proofs.lemmas.List.{length-map}
use Rattle.c_calls.specs.Types.{MissingCpu, Settings}
use Rattle.registry_values.specs.Common.{number_of_refusal}
use Rattle.registry_values.proofs.Fit.{ranges}
use Rattle.cpu_words.specs.Common.{Named}
use Rattle.passive_list.specs.Common.{OnCpu}
use Rattle.name_registry.specs.Common.{AreAlike, AreOf, AreThere, AreTold, HasToldAll, HaveHeardAndTold, HaveLearned, occupied, tally_met}
use Rattle.name_registry.proofs.Gathered.{listened_none}
use Rattle.name_registry.proofs.Tallies.{known_keeper}
use Rattle.c_handles.specs.declared.handle.CpuHandle.{CpuHandle}
use Rattle.c_handles.specs.declared.values.plain.TheConstants.{DONE, NO_ROOM}
use Rattle.c_calls.specs.Audits.{AreAllHere, Audits, HaveHeard, balance_in, cpu_in, cpus_in, filled_up, table_in}
use Rattle.c_calls.specs.Opening.{bodies_of}
use Rattle.c_handles.specs.values.Places.{put}
use Rattle.c_calls.proofs.Audited.{all_fit, all_there, audit_told, audited, cpus_lent, here_lent, lent_heard, lent_here, lent_of_one, missing_cpu, no_room, none_heard}
use Rattle.c_calls.proofs.audit.audit_all.Goals as goal

pub returns-then-not-are_all : goal.returns-then-not-are_all
returns-then-not-are_all c =
    let z = c.args.keeper.now.words.settings in
    let cs = bodies_of c.args.cpus.now in
    let refused : number_of_refusal MissingCpu ≡ DONE → ⊥ = λ is. absurd (omega (arith, is)) in
    record {
      keeper = (refl, listened_none c.args.keeper.now.keeper);
      cpus = none_heard cs _ (ap bodies_of c.are_all.ensures.same);
      notes = λ done. absurd (refused (sym c.refused.ensures ∙ done));
      told = λ done. absurd (refused (sym c.refused.ensures ∙ done));
      unchanged = λ _. (refl, ap bodies_of c.are_all.ensures.same);
      place = refl;
      answer = subst (λ (n : ℕ). Audits z c.args.keeper.now.keeper cs n c.args.list.now c.args.list.now c.args.length.now.value c.args.length.now.value) (sym c.refused.ensures)
          (missing_cpu z _ cs _ _ _ _ (λ all. c.are_all.ensures.no c.if-not-are_all.true
          (here_lent _ c.args.cpus.now (subst (λ (a : Settings). AreAllHere a.cpus cs) (sym c.settings.ensures.value) all))) refl refl);
    }

pub returns-then-list-count : goal.returns-then-list-count
returns-then-list-count c =
    let cs = bodies_of c.args.cpus.now in
    let all = subst (λ (a : Settings). AreAllHere a.cpus cs) c.settings.ensures.value (lent_here _ c.args.cpus.now (c.are_all.ensures.yes c.if-not-are_all.false)) in
    record {
      keeper = (refl, listened_none c.args.keeper.now.keeper);
      cpus = none_heard cs _ (ap bodies_of c.are_all.ensures.same);
      notes = λ (done : NO_ROOM ≡ DONE). absurd (omega (arith, done));
      told = λ (done : NO_ROOM ≡ DONE). absurd (omega (arith, done));
      unchanged = λ _. (refl, ap bodies_of c.are_all.ensures.same);
      place = c.put.ensures.same;
      answer = no_room c.args.keeper.now.words.settings c.args.keeper.now.keeper cs _ _ _ _ all (omega (arith, c.if-list-count.true, c.count_entries-count.ensures)) refl
          (c.put.ensures.value ∙ ap (put c.args.length.now.value) c.count_entries-count.ensures);
    }

pub gather-requires-clause-there : goal.gather-requires-clause-there
gather-requires-clause-there c =
    subst (λ (us : List CpuHandle). AreOf c.args.keeper.now.words (map (λ (h : CpuHandle). table_in h.body) us)) (sym c.are_all.ensures.same)
    (lent_of_one c.args.keeper.now.words c.args.cpus.now (c.are_all.ensures.yes c.if-not-are_all.false).there c.requires.same)

pub write_balances-requires-clause-there : goal.write_balances-requires-clause-there
write_balances-requires-clause-there c =
    subst AreThere (sym c.gather.ensures.tables)
    (subst (λ (us : List CpuHandle). AreThere (map (λ (h : CpuHandle). table_in h.body) us)) (sym c.are_all.ensures.same) (c.are_all.ensures.yes c.if-not-are_all.false).there)

pub write_balances-requires-clause-few : goal.write_balances-requires-clause-few
write_balances-requires-clause-few c =
    let known = known_keeper _ _ _ _ _ c.settings.ensures.own.1.agree c.settings.ensures.own.1.are in
    let few = (ranges c.args.keeper.now.words.settings known.view.fit).cpus in
    let tables : length (map (λ (h : CpuHandle). table_in h.body) c.gather.new.cpus) ≡ length (map (λ (h : CpuHandle). table_in h.body) c.are_all.new.cpus) = ap length c.gather.ensures.tables in
    omega (
      arith,
      few,
      tables,
      length-map c.gather.new.cpus (λ (h : CpuHandle). table_in h.body),
      length-map c.are_all.new.cpus (λ (h : CpuHandle). table_in h.body),
      ap length c.are_all.ensures.same,
      (c.are_all.ensures.yes c.if-not-are_all.false).all.count,
      length-map c.args.cpus.now (λ (h : CpuHandle). cpu_in h.body),
      ap (λ (z : Settings). z.cpus) c.settings.ensures.value,
    )

pub write_balances-requires-clause-fits : goal.write_balances-requires-clause-fits
write_balances-requires-clause-fits c = all_fit c.args.list.now

pub returns-clause-cpus : goal.returns-clause-cpus
returns-clause-cpus c =
    subst (λ (p : List CpuHandle × List CpuHandle). HaveHeard (bodies_of p.0) (bodies_of p.1)) (λ i. (c.are_all.ensures.same i, sym c.write_balances.ensures.cpus i))
    (lent_heard c.are_all.new.cpus c.gather.new.cpus c.gather.ensures.tables c.gather.ensures.cpus)

pub returns-clause-notes : goal.returns-clause-notes
returns-clause-notes c = λ _.
    let xs = ap (map (λ (h : CpuHandle). cpu_in h.body)) c.are_all.ensures.same ∙ cpus_lent c.args.cpus.now in
    let ys = ap (map (λ (h : CpuHandle). cpu_in h.body)) (sym c.write_balances.ensures.cpus) ∙ cpus_lent c.write_balances.new.cpus in
    subst (λ (p : List OnCpu × List OnCpu). HaveHeardAndTold p.0 p.1) (λ i. (xs i, ys i)) c.gather.ensures.notes

pub returns-clause-told : goal.returns-clause-told
returns-clause-told c = λ _.
    subst (λ (ys : List OnCpu). HasToldAll c.args.keeper.now.keeper ys c.gather.new.keeper.keeper)
    (ap (map (λ (h : CpuHandle). cpu_in h.body)) (sym c.write_balances.ensures.cpus) ∙ cpus_lent c.write_balances.new.cpus) c.gather.ensures.told

pub returns-clause-answer : goal.returns-clause-answer
returns-clause-answer c =
    let z = c.args.keeper.now.words.settings in
    let k = c.args.keeper.now.keeper in
    let cs = bodies_of c.args.cpus.now in
    let ys = map (λ (h : CpuHandle). cpu_in h.body) c.gather.new.cpus in
    let xs : map (λ (h : CpuHandle). cpu_in h.body) c.are_all.new.cpus ≡ cpus_in cs = ap (map (λ (h : CpuHandle). cpu_in h.body)) c.are_all.ensures.same ∙ cpus_lent c.args.cpus.now in
    let all = subst (λ (a : Settings). AreAllHere a.cpus cs) c.settings.ensures.value (lent_here _ c.args.cpus.now (c.are_all.ensures.yes c.if-not-are_all.false)) in
    let known = known_keeper _ _ _ _ _ c.settings.ensures.own.1.agree c.settings.ensures.own.1.are in
    let after = c.gather.new.keeper.keeper in
    let told = subst (λ (w : Named). AreTold balance_in (λ n t. filled_up (tally_met after ys n t)) after w.settings.slots (occupied after w.settings.slots) c.args.list.now c.write_balances.new.list)
    c.gather.ensures.words c.write_balances.ensures.list in
    let writes = audit_told z after k ys cs c.args.list.now c.write_balances.new.list known (all_there z.cpus cs all).all
    (subst (λ (us : List OnCpu). AreAlike k us ys) xs c.gather.ensures.alike) c.gather.ensures.keeper (subst (λ (us : List OnCpu). HaveLearned us ys) xs c.gather.ensures.cpus) told in
    audited z k cs _ _ _ _ all (omega (arith, c.if-list-count.false, c.count_entries-count.ensures)) writes
    (c.put.ensures.value ∙ ap (put c.args.length.now.value) c.count_entries-count.ensures)
