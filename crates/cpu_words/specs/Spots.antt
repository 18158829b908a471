-- Where the words lie: which words there are, and the place of each, by the constants of src/layout.rt.
use Rattle.std.specs.Prelude.{◌≡◌, ℕ, ◌+◌, ◌*◌, ◌<◌, ◌≤◌, ◌⊎◌, slice_index_or, Option, Some, None}
use Rattle.cpu_words.specs.Types.{Settings}
use Rattle.protocol.specs.Common.{State, section_at, row_at, passive_at, count_at, total_at, live_at, word}
use Rattle.cpu_words.specs.declared.layout.Row.{Row}
use Rattle.cpu_words.specs.declared.layout.TheConstants.{LINE, PASSIVES, APART, HEAD, NEXTS, RECORDS, LIVES, STRIDE, TOTALS}

-- a word of the table: a CPU's section, its passive and count words for each slot, the head, and a slot's link, record words, live word and total
pub data Spot : Type 0 where
  section_of : ℕ → Spot
  passive_of : ℕ → ℕ → Spot
  count_of : ℕ → ℕ → Spot
  head_word : Spot
  live_of : ℕ → Spot
  next_of : ℕ → Spot
  record_of : ℕ → ℕ → Spot
  total_of : ℕ → Spot

-- The shared words come first, a slot's link, record words, live word and total on one line of 8 words. Behind them lie the rows, a CPU's words side by side.

-- the row of CPU 0, by how many slots there are
abbrev pub rows_from : ℕ → ℕ
rows_from slots = NEXTS + STRIDE * slots + LINE

-- from a CPU's row to the next one
abbrev pub stride_of : ℕ → ℕ
stride_of slots = 2 * slots + APART

-- how many words a table has
abbrev pub words_of : Settings → ℕ
words_of z = rows_from z.slots + z.cpus * stride_of z.slots

-- the place of a word
abbrev pub index : Settings → Spot → ℕ
index z (section_of c) = rows_from z.slots + c * stride_of z.slots
index z (passive_of c t) = rows_from z.slots + c * stride_of z.slots + PASSIVES + t
index z (count_of c t) = rows_from z.slots + c * stride_of z.slots + PASSIVES + z.slots + t
index z head_word = HEAD
index z (live_of t) = LIVES + STRIDE * t
index z (next_of t) = NEXTS + STRIDE * t
index z (record_of t k) = RECORDS + STRIDE * t + k
index z (total_of t) = TOTALS + STRIDE * t

-- what is kept of a CPU's row, where there are so many slots
pub record IsRowOf (slots : ℕ) (r : Row) : Type 0 where
  pub section : r.section ≡ rows_from slots + r.cpu * stride_of slots
  pub counts : r.counts ≡ rows_from slots + r.cpu * stride_of slots + PASSIVES + slots

-- the settings have such a word
abbrev pub IsSpot : Settings → Spot → Type 0
IsSpot z (section_of c) = c < z.cpus
IsSpot z (passive_of c t) = (c < z.cpus) × (t < z.slots)
IsSpot z (count_of c t) = (c < z.cpus) × (t < z.slots)
IsSpot z head_word = Unit {0}
IsSpot z (live_of t) = t < z.slots
IsSpot z (next_of t) = t < z.slots
IsSpot z (record_of t k) = (t < z.slots) × (k < 5)
IsSpot z (total_of t) = t < z.slots

-- the word that the core has there
abbrev pub word_at : State → Spot → ℕ
word_at g (section_of c) = section_at g c
word_at g (passive_of c t) = passive_at g.passive c t
word_at g (count_of c t) = count_at g.counts c t
word_at g head_word = g.head
word_at g (live_of t) = live_at g.lives t
word_at g (next_of t) = slice_index_or g.next t 0
word_at g (record_of t k) = word (row_at g.rows t) k
word_at g (total_of t) = total_at g.totals t

-- the CPU whose own word it is; the shared words are none's
abbrev pub owner : Spot → Option ℕ
owner (section_of c) = Some c
owner (passive_of c t) = Some c
owner (count_of c t) = Some c
owner head_word = None
owner (live_of t) = None
owner (next_of t) = None
owner (record_of t k) = None
owner (total_of t) = None

-- nine words or more from one to the other: they share no line of eight words, wherever the block begins
abbrev pub AreApart : ℕ → ℕ → Type 0
AreApart i j = (i + 9 ≤ j) ⊎ (j + 9 ≤ i)

-- The words of two CPUs, and a CPU's and the shared ones, are so apart.
abbrev pub LinesApart : Type 0
LinesApart = (z : Settings) (p q : Spot) → IsSpot z p → IsSpot z q → (owner p ≡ owner q → ⊥) → AreApart (index z p) (index z q)

-- None of these is among the first sixteen words, two lines of eight.
abbrev pub FirstWordsFree : Type 0
FirstWordsFree = (z : Settings) (p : Spot) → IsSpot z p → 16 ≤ index z p

-- Two different words are at different places.
abbrev pub OnePlace : Type 0
OnePlace = (z : Settings) (p q : Spot) → IsSpot z p → IsSpot z q → (p ≡ q → ⊥) → index z p ≡ index z q → ⊥

-- Each is a word of the table.
abbrev pub AllBelow : Type 0
AllBelow = (z : Settings) (p : Spot) → IsSpot z p → index z p < words_of z
