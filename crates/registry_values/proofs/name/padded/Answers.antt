-- `padded`: what it returns.
use Rattle.std.proofs.Common.{◌≡◌, ◌-◌, ℕ, List, ◌++◌, length, take, drop, replicate, ap, ap₂, sym, ◌∙◌, arith, take-append-drop, take_all}
use Rattle.std.proofs.lemmas.List.{drop-replicate}
use Rattle.registry_values.specs.Common.{padded_bytes}
use Rattle.registry_values.proofs.name.padded.Goals as goal

all_written : (n : ℕ) (bytes text : List ℕ) → n ≡ length text → take n bytes ≡ take n text → drop n bytes ≡ drop n (replicate 16 0) → bytes ≡ padded_bytes text
all_written n bytes text ends front back =
    let whole : take n text ≡ text = take_all n text (omega arith) in
    let zeros = back ∙ drop-replicate n 16 0 ∙ ap (λ k. replicate (16 - k) 0) ends in
    sym (take-append-drop n bytes) ∙ ap₂ (λ (a b : List ℕ). a ++ b) (front ∙ whole) zeros

pub returns : goal.returns
returns c =
    let l = c.loop-i in
    let ends : l.i ≡ length c.args.text.now = omega arith in
    all_written l.i l.bytes c.args.text.now ends l.invariant.front l.invariant.back
