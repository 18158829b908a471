-- All rows are of no entry, and each hint leads to the first slot.
use Rattle.std.proofs.Common.{◌≡◌, ◌∙◌, length, replicate, ap, arith, subst, sym}
use Rattle.std.proofs.lemmas.List.{length-replicate}
use Rattle.passive_list.specs.Common.{LeadBelow, no_hint, no_memo}
use Rattle.passive_list.specs.declared.memory.TheConstants.{HINTS}
use Rattle.passive_list.proofs.Memories.{none_lead}
use Rattle.passive_list.proofs.memory.Memory.new.Goals as goal

pub invariant_of-result : goal.invariant_of-result
invariant_of-result c =
    let rows : c.in_ok-vec.field-0.items ≡ replicate c.args.slots no_memo = c.in_ok-vec.ensures.items_if_clones_equal (λ y is. is) ∙ λ i. replicate c.args.slots (c.none.ensures i) in
    let hints : c.in_ok-vec-2.field-0.items ≡ replicate HINTS no_hint = c.in_ok-vec-2.ensures.items_if_clones_equal (λ y is. is) ∙ λ i. replicate HINTS (c.none-2.ensures i) in
    let size : length c.in_ok-vec.field-0.items ≡ c.args.slots = ap length rows ∙ length-replicate c.args.slots no_memo in (
      ap length hints ∙ length-replicate HINTS no_hint,
      subst (LeadBelow (length c.in_ok-vec.field-0.items)) (sym hints) (none_lead (length c.in_ok-vec.field-0.items) (omega (arith, size, c.requires))),
    )

pub returns : goal.returns
returns c =
    let rows : c.in_ok-vec.field-0.items ≡ replicate c.args.slots no_memo = c.in_ok-vec.ensures.items_if_clones_equal (λ y is. is) ∙ λ i. replicate c.args.slots (c.none.ensures i) in
    let hints : c.in_ok-vec-2.field-0.items ≡ replicate HINTS no_hint = c.in_ok-vec-2.ensures.items_if_clones_equal (λ y is. is) ∙ λ i. replicate HINTS (c.none-2.ensures i) in
    λ i. record { rows = rows i; hints = hints i; missed = c.in_ok-new.ensures i }
