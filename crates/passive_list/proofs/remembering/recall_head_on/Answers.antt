-- The data agree with the view again, and what the load found tells of the newest entry.
use Rattle.cpu_words.proofs.seats.Seating.{step_is_shown}
use Rattle.passive_list.proofs.Agreeing.{noted_agrees, own_agrees}
use Rattle.passive_list.proofs.remembering.recall_head_on.Goals as goal

pub invariant_of-cpu : goal.invariant_of-cpu
invariant_of-cpu c =
    own_agrees _ _ _ _ _ _ _ _ _ _ _ (noted_agrees _ _ _ _ _ _ _ _ _ _ _ _ _ _ c.cpu.invariant (step_is_shown c.recall_head.ensures.step.event) c.recall_head.ensures.step.table
    c.recall_head.ensures.change.is.0 c.recall_head.ensures.change.is.1)
