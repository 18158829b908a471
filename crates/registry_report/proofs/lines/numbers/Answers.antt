-- `numbers`: that each turn of its loop keeps the invariants.
use Rattle.std.proofs.Common.{List, ℕ, ◌++◌, ◌∙◌, ap, map, pos, sym, take}
use Rattle.std.specs.Fmt.{signed_decimal}
use Rattle.registry_report.specs.Common.{spaced_words}
use Rattle.registry_report.proofs.Written.{spaced_step}
use Rattle.registry_report.proofs.lines.numbers.Goals as goal

pub loop-number-preserved : goal.loop-number-preserved
loop-number-preserved c =
    let so_far = spaced_words (map signed_decimal (take c.loop-number.number-index c.args.numbers.now)) in
    c.in_ok-push_str.ensures.bytes
    ∙ (ap (λ (z : List ℕ). z ++ c.deref.result.now) c.loop-number.invariant
    ∙ (ap (λ (z : List ℕ). so_far ++ z) (c.deref.ensures ∙ c.in_ok-word.ensures.ok)
    ∙ sym (spaced_step c.args.numbers.now c.loop-number.number-index (pos 0) c.loop-number-test.true)))
