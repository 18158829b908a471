use Rattle.std.proofs.Common.{◌<◌, Bool, false, not, ap, sym, subst, ◌∙◌, slice_index_or}
use Rattle.std.proofs.lemmas.Bool.{false≢true}
use Rattle.protocol.proofs.Cells.{get_or_all}
use Rattle.registry_values.specs.Common.{least_below}
use Rattle.protocol.specs.Common.{is_inside, State}
use Rattle.registry_values.proofs.Slots.{least_agrees}
use Rattle.passive_core.specs.Types.{MOST_CPUS}
use Rattle.passive_core.proofs.Performing.{not_not}
use Rattle.passive_core.proofs.machine.Core.wait_for_sections.Goals as goal

pub returns-clause-answer : goal.returns-clause-answer
returns-clause-answer c =
    let s = c.args.self.now in
    let l = c.loop in
    c.first_unseen.ensures ∙ (least_agrees (λ d. not (slice_index_or l.seen d false)) (is_inside s) c.self.inside.settings.cpus
    (λ d lt. not_not (slice_index_or l.seen d false) (is_inside s d) (l.invariant.seen d (subst (λ (x : State). d < x.settings.cpus) (c.self.view_is ∙ l.invariant.same) lt)))
    ∙ ap (λ (x : State). least_below (is_inside s) x.settings.cpus) (c.self.view_is ∙ l.invariant.same))

pub glance_at_all-requires-clause-sound : goal.glance_at_all-requires-clause-sound
glance_at_all-requires-clause-sound c d is = absurd (false≢true (sym (get_or_all {X = Bool} MOST_CPUS false d) ∙ is))
