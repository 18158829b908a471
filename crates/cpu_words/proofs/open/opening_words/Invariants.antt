use Rattle.std.proofs.Common.{◌≡◌, ◌<◌, ℕ, length, get_or}
use Rattle.registry_values.specs.Common.{bias}
use Rattle.cpu_words.specs.Common.{words_of, total_of, index}
use Rattle.cpu_words.proofs.open.opening_words.Given as goal

-- all words are 0 but the totals so far
abbrev pub invariant-loop-t : goal.invariant-loop-t
invariant-loop-t l = (length l.words.items ≡ words_of l.fn.settings)
    × ((i : ℕ) → i < words_of l.fn.settings → ((t : ℕ) → t < l.fn.settings.slots → index l.fn.settings (total_of t) ≡ i → ⊥) → get_or l.words.items i 0 ≡ 0)
    × ((t : ℕ) → t < l.t → get_or l.words.items (index l.fn.settings (total_of t)) 0 ≡ bias)
