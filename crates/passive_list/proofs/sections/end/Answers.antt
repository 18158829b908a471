-- The data agree with the view as a section ends.
use Rattle.std.proofs.Common.{◌≡◌, ap, ◌∙◌}
use Rattle.passive_list.specs.Common.{OnPlainCpu}
use Rattle.cpu_words.proofs.seats.Seating.{step_is_shown}
use Rattle.passive_list.proofs.Agreeing.{exited_agrees, own_agrees}
use Rattle.passive_list.proofs.sections.end.Goals as goal

pub invariant_of-cpu : goal.invariant_of-cpu
invariant_of-cpu c =
    let last : c.cpu.inside.depth ≡ 1 = ap (λ (o : OnPlainCpu). o.cpu.depth) c.cpu.view_is ∙ c.requires.last in
    own_agrees _ _ _ _ _ _ _ _ _ _ _ (exited_agrees _ _ _ _ _ _ _ _ _ _ _ _ _ c.cpu.invariant (step_is_shown c.exit.ensures.step.event) c.exit.ensures.step.table last c.exit.ensures.change)
