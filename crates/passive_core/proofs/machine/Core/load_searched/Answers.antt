use Rattle.std.proofs.Common.{length, List, Some, sym, ap, subst, ◌∙◌}
use Rattle.protocol.specs.Common.{State, search_at, Holds, SlotWithin, loaded_at, row_of_place, with_search_at, search_over}
use Rattle.passive_core.specs.Common.{state_shown}
use Rattle.passive_core.proofs.machine.Core.load_searched.Goals as goal
use Rattle.protocol.proofs.keeps.SearchKeeps.{loaded_keeps}
use Rattle.protocol.proofs.counts.Bounds.{search_within}
use Rattle.passive_core.specs.Types.{RecordWords, On, Over}

pub row_of_place-row-requires : goal.row_of_place-row-requires
row_of_place-row-requires c =
    let is = ap (λ (x : State). search_at x c.args.c) c.self.view_is ∙ sym c.in-Some.ensures.value in
    let size = c.self.invariant.shape.rows ∙ sym c.self.invariant.shape.slots in
    subst (SlotWithin c.in-Some.search.place) (sym (ap length c.deref.ensures.value ∙ size)) (search_within (state_shown c.self.inside) c.args.c c.in-Some.search c.self.invariant is)

pub go_on-requires-clause-holds : goal.go_on-requires-clause-holds
go_on-requires-clause-holds c =
    let is = ap (λ (x : State). search_at x c.args.c) c.self.view_is ∙ sym c.in-Some.ensures.value in
    let load = ap (λ (rows : List RecordWords). loaded_at c.in-Some.search c.in-Some.search.place (row_of_place rows c.in-Some.search.place)) (sym c.deref.ensures.value)
    ∙ ap (loaded_at c.in-Some.search c.in-Some.search.place) (sym c.row_of_place-row.ensures) ∙ (sym c.loaded.ensures ∙ (c.in-Some-On.is ∙ ap Some c.in-Some-On.field-0-is)) in
    subst (λ (x : State). Holds (with_search_at x c.args.c c.in-Some.search c.in-Some-On.place)) c.self.view_is
    (loaded_keeps (state_shown c.self.inside) c.args.c c.in-Some.search (Some (On c.in-Some-On.place c.in-Some-On.word)) c.self.invariant is load)

pub end_search-requires-clause-holds : goal.end_search-requires-clause-holds
end_search-requires-clause-holds c =
    let is = ap (λ (x : State). search_at x c.args.c) c.self.view_is ∙ sym c.in-Some.ensures.value in
    let load = ap (λ (rows : List RecordWords). loaded_at c.in-Some.search c.in-Some.search.place (row_of_place rows c.in-Some.search.place)) (sym c.deref.ensures.value)
    ∙ ap (loaded_at c.in-Some.search c.in-Some.search.place) (sym c.row_of_place-row.ensures) ∙ (sym c.loaded.ensures ∙ (c.in-Some-Over.is ∙ ap Some c.in-Some-Over.field-0-is)) in
    subst (λ (x : State). Holds (search_over x c.args.c (Some c.in-Some-Over.entry))) c.self.view_is
    (loaded_keeps (state_shown c.self.inside) c.args.c c.in-Some.search (Some (Over c.in-Some-Over.entry)) c.self.invariant is load)
