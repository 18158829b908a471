-- The section is this CPU's from its enter to its exit, and the data agree with the view again.
use Rattle.std.proofs.Common.{Some, ap, ◌∙◌}
use Rattle.passive_list.specs.Types.{CpuView}
use Rattle.cpu_words.specs.Common.{key_with}
use Rattle.cpu_words.proofs.seats.Seating.{step_is_shown}
use Rattle.passive_list.specs.Common.{OnPlainCpu}
use Rattle.passive_list.proofs.Agreeing.{may_seek, may_exit, from_outside_agrees, found_from_outside}
use Rattle.passive_list.proofs.Walking.{slots_seen}
use Rattle.passive_list.proofs.from_outside.find_from_outside.Goals as goal

pub exit_counted-requires-clause-may : goal.exit_counted-requires-clause-may
exit_counted-requires-clause-may c = may_exit (key_with c.args.kind c.args.name) _ _ _ (may_seek _ _ c.cpu.invariant.idle c.enter.ensures.change) c.in_default.ensures.change

pub invariant_of-cpu : goal.invariant_of-cpu
invariant_of-cpu c =
    from_outside_agrees _ _ _ _ _ _ _ _ _ _ _ _ _ _ _ _ _ (key_with c.args.kind c.args.name) _ c.cpu.invariant (ap (λ (o : OnPlainCpu). o.cpu) c.cpu.view_is) c.requires.outside c.requires.room
    (c.exit_counted.ensures.step.table ∙ c.in_default.ensures.table ∙ c.enter.ensures.step.table) c.enter.ensures.step c.enter.ensures.change c.in_default.ensures.is_shown
    c.in_default.ensures.change (step_is_shown c.exit_counted.ensures.step.event) c.exit_counted.ensures.change c.exit_counted.ensures.count

pub returns-in_default-clause-found : goal.returns-in_default-clause-found
returns-in_default-clause-found c =
    found_from_outside (key_with c.args.kind c.args.name) _ _ _ _ _ _ _ _ _
    (ap (λ (o : OnPlainCpu). o.cpu) c.cpu.view_is) c.cpu.invariant.idle c.cpu.invariant.id c.requires.outside c.enter.ensures.step c.enter.ensures.change c.in_default.ensures.change
    c.in_default.ensures.known_log c.in_default.ensures.log c.exit_counted.ensures.step c.exit_counted.ensures.change

pub exit_counted-requires-2-clause-may : goal.exit_counted-requires-2-clause-may
exit_counted-requires-2-clause-may c = may_exit (key_with c.args.kind c.args.name) _ _ _ (may_seek _ _ c.cpu.invariant.idle c.enter.ensures.change) c.in-Some.ensures.change

pub invariant_of-cpu-2 : goal.invariant_of-cpu-2
invariant_of-cpu-2 c =
    from_outside_agrees _ _ _ _ _ _ _ _ _ _ _ _ _ _ _ _ _ (key_with c.args.kind c.args.name) _ c.cpu.invariant (ap (λ (o : OnPlainCpu). o.cpu) c.cpu.view_is) c.requires.outside c.requires.room
    (c.exit_counted-2.ensures.step.table ∙ c.in-Some.ensures.table ∙ c.enter.ensures.step.table) c.enter.ensures.step c.enter.ensures.change c.in-Some.ensures.is_shown
    c.in-Some.ensures.change (step_is_shown c.exit_counted-2.ensures.step.event) c.exit_counted-2.ensures.change c.exit_counted-2.ensures.count

pub returns-clause-found : goal.returns-clause-found
returns-clause-found c =
    found_from_outside (key_with c.args.kind c.args.name) _ _ _ _ _ _ _ _ _
    (ap (λ (o : OnPlainCpu). o.cpu) c.cpu.view_is) c.cpu.invariant.idle c.cpu.invariant.id c.requires.outside c.enter.ensures.step c.enter.ensures.change c.in-Some.ensures.change
    c.in-Some.ensures.known_log c.in-Some.ensures.log c.exit_counted-2.ensures.step c.exit_counted-2.ensures.change

pub returns-clause-slot : goal.returns-clause-slot
returns-clause-slot c =
    slots_seen (key_with c.args.kind c.args.name) _ _ (Some c.in-Some.seen) c.args.cpu.now.words.settings c.in-Some.ensures.change
    (ap (λ (v : CpuView). v.settings) c.enter.ensures.change.1 ∙ ap (λ (o : OnPlainCpu). o.words.settings) c.cpu.view_is)
