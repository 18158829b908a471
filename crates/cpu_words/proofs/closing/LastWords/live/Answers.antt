-- `LastWords::live`: the word that the closed table returns is the one of the list.
use Rattle.std.proofs.Common.{◌≡◌, ℕ, zero, suc, List, [], ◌∷◌, sym, ap, ◌∙◌, subst, slice_index}
use mathlib.Core.Option.{some, some-ne-none, some-injective}
use lib.ListN.{get_elem?}
use Rattle.cpu_words.specs.Common.{LastView}
use Rattle.cpu_words.proofs.closing.LastWords.live.Goals as goal

there : (l : List ℕ) (i a : ℕ) → get_elem? l i ≡ some a → a ≡ slice_index l i
there [] i a e = absurd (some-ne-none a (sym e))
there (x ∷ xs) zero a e = sym (some-injective x a e)
there (x ∷ xs) (suc i) a e = there xs i a e

pub returns : goal.returns
returns c =
    let last = c.args.self.now.words in
    let at : get_elem? last c.live_place.result ≡ some c.word.result = subst (λ (x : LastView). get_elem? x.words c.live_place.result ≡ some c.word.result) c.self.view_is c.word.ensures in
    there last c.live_place.result c.word.result at ∙ ap (slice_index last) c.live_place.ensures.place
