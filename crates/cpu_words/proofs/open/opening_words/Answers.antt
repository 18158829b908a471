use Rattle.std.proofs.Common.{◌≡◌, ◌∙◌, ◌<◌, ℕ, ap, arith, sym, get_or, get_or-set_other, get_or-set_same, length-set, set, ⊎_elim}
use Rattle.std.proofs.lemmas.Bool.{cases_eq}
use Rattle.registry_values.specs.Common.{bias}
use Rattle.cpu_words.specs.Common.{index, total_of, words_of}
use Rattle.cpu_words.proofs.shown.Placing.{below_size}
use Rattle.cpu_words.proofs.open.opening_words.Goals as goal

pub loop-t-preserved : goal.loop-t-preserved
loop-t-preserved c =
    let words = c.loop-t.words.items in
    let here : ℕ = index c.args.settings (total_of c.loop-t.t) in
    let size = c.loop-t.invariant.0 in
    let few = c.loop-t-test.true in
    let lt_here : here < words_of c.args.settings = below_size c.args.settings (total_of c.loop-t.t) few in
    rw c.total_place.ensures.place (
      length-set words here bias ∙ size,
      (λ i lt other. get_or-set_other words here i bias 0 (λ same. other c.loop-t.t few (sym same)) ∙ c.loop-t.invariant.1 i lt other),
      (λ t lt. ⊎_elim
          (λ (same : t ≡ c.loop-t.t). ap (λ u. get_or (set words here bias) (index c.args.settings (total_of u)) 0) same ∙ get_or-set_same words here bias 0 (omega (arith, size, lt_here)))
          (λ (off : t ≡ c.loop-t.t → ⊥). get_or-set_other words here (index c.args.settings (total_of t)) bias 0 (λ same. off (omega (arith, same))) ∙ c.loop-t.invariant.2 t (omega (arith, lt, off)))
          (cases_eq t c.loop-t.t)),
    )
