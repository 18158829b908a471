-- A load that finds the entry live is the lookup.
use Rattle.name_registry.proofs.LookedUp.{has_missed, looked_by_load}
use Rattle.name_registry.proofs.looking_up.look_up_fast.Goals as goal

pub returns-then-may_begin_on-clause-looks : goal.returns-then-may_begin_on-clause-looks
returns-then-may_begin_on-clause-looks c = looked_by_load c.args.key c.args.cpu.now.cpu c.recall_remembered.new.cpu.cpu c.recall_remembered.result (c.may_begin_on.ensures.0 c.if-may_begin_on.true) c.recall_remembered.ensures.found

pub returns-then-may_begin_on-clause-missed : goal.returns-then-may_begin_on-clause-missed
returns-then-may_begin_on-clause-missed c none = has_missed c.args.key c.args.cpu.now.cpu c.recall_remembered.new.cpu.cpu c.recall_remembered.result (c.may_begin_on.ensures.0 c.if-may_begin_on.true) c.recall_remembered.ensures.found none
