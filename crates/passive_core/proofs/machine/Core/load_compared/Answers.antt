use Rattle.std.proofs.Common.{length, sym, ap, subst, ◌∙◌}
use Rattle.protocol.specs.Common.{State, search_at, SlotWithin}
use Rattle.passive_core.specs.Common.{state_shown}
use Rattle.passive_core.proofs.machine.Core.load_compared.Goals as goal
use Rattle.protocol.proofs.counts.Bounds.{search_within}

pub row_of_place-row-requires : goal.row_of_place-row-requires
row_of_place-row-requires c =
    let is = ap (λ (x : State). search_at x c.args.c) c.self.view_is ∙ sym c.in-Some.ensures.value in
    let size = c.self.invariant.shape.rows ∙ sym c.self.invariant.shape.slots in
    subst (SlotWithin c.in-Some.search.place) (sym (ap length c.deref.ensures.value ∙ size)) (search_within (state_shown c.self.inside) c.args.c c.in-Some.search c.self.invariant is)
