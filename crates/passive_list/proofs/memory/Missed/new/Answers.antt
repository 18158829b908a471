-- All places and hints are of nothing.
use Rattle.std.proofs.Common.{◌≡◌, replicate, ◌∙◌}
use Rattle.passive_list.specs.Common.{no_hint}
use Rattle.passive_list.specs.declared.memory.TheConstants.{HINTS}
use Rattle.passive_list.proofs.memory.Missed.new.Goals as goal

pub returns : goal.returns
returns c =
    let places = c.in_ok-vec.ensures.items_if_clones_equal (λ y is. is) ∙ λ i. replicate (c.min-places.ensures i) (c.none.ensures i) in
    let hints : c.in_ok-vec-2.field-0.items ≡ replicate HINTS no_hint = c.in_ok-vec-2.ensures.items_if_clones_equal (λ y is. is) ∙ λ i. replicate HINTS (c.none-2.ensures i) in
    λ i. record { places = places i; hints = hints i; next = 0 }
