-- The data agree with the view again, and what the load found tells of the entry that is remembered.
use Rattle.std.proofs.Common.{true, false, sym, ap}
use Rattle.std.proofs.lemmas.Bool.{eq-eqb, ne_eqb}
use Rattle.cpu_words.proofs.seats.Seating.{step_is_shown}
use Rattle.passive_list.specs.Common.{OnPlainCpu}
use Rattle.passive_list.proofs.Agreeing.{noted_agrees, own_agrees}
use Rattle.passive_list.proofs.ByMemory.{not_recalled_by, recalled_by, recalled_on}
use Rattle.passive_list.proofs.remembering.recall_remembered_by.Goals as goal

pub invariant_of-cpu : goal.invariant_of-cpu
invariant_of-cpu c =
    own_agrees _ _ _ _ _ _ _ _ _ _ _ (noted_agrees _ _ _ _ _ _ _ _ _ _ _ _ _ _ c.cpu.invariant (step_is_shown c.recall-live.ensures.step.event) c.recall-live.ensures.step.table
    c.recall-live.ensures.change.is.0 c.recall-live.ensures.change.is.1)

pub invariant_of-cpu-2 : goal.invariant_of-cpu-2
invariant_of-cpu-2 c =
    own_agrees _ _ _ _ _ _ _ _ _ _ _ (noted_agrees _ _ _ _ _ _ _ _ _ _ _ _ _ _ c.cpu.invariant (step_is_shown c.recall-live.ensures.step.event) c.recall-live.ensures.step.table
    c.recall-live.ensures.change.is.0 c.recall-live.ensures.change.is.1)

pub returns-then-is_live-clause-found : goal.returns-then-is_live-clause-found
returns-then-is_live-clause-found c =
    let s = c.in_ok-seen.seen in
    recalled_by c.args.word c.args.name c.args.cpu.now _ s c.in_ok-seen.ensures
    (recalled_on _ s.number _ _ _ _ _ _ _ true (ap (λ (o : OnPlainCpu). o.cpu) c.cpu.view_is) c.recall-live.ensures.change c.recall-live.ensures.whole c.cpu.invariant.id c.recall-live.ensures.step.log
    c.recall-live.ensures.step.known_log (sym (eq-eqb c.recall-live.result s.number c.if-is_live.true)))

pub returns-clause-found : goal.returns-clause-found
returns-clause-found c =
    let s = c.in_ok-seen.seen in
    not_recalled_by c.args.word c.args.name c.args.cpu.now _ s c.in_ok-seen.ensures
    (recalled_on _ s.number _ _ _ _ _ _ _ false (ap (λ (o : OnPlainCpu). o.cpu) c.cpu.view_is) c.recall-live.ensures.change c.recall-live.ensures.whole c.cpu.invariant.id c.recall-live.ensures.step.log
    c.recall-live.ensures.step.known_log (sym (ne_eqb c.recall-live.result s.number c.if-is_live.false)))
