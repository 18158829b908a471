-- The data agree with the view as a note is heard.
use Rattle.cpu_words.proofs.seats.Seating.{step_is_shown}
use Rattle.passive_list.proofs.Agreeing.{noted_agrees, own_agrees}
use Rattle.passive_list.proofs.notes.hear_on.Goals as goal

pub invariant_of-cpu : goal.invariant_of-cpu
invariant_of-cpu c =
    own_agrees _ _ _ _ _ _ _ _ _ _ _ (noted_agrees _ _ _ _ _ _ _ _ _ _ _ _ _ _ c.cpu.invariant (step_is_shown c.hear.ensures.event) c.hear.ensures.table c.hear.ensures.change.0 c.hear.ensures.change.1)
