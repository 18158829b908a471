-- What a CPU remembers of the entries that it has found: a row for each slot, and by hint of a name the two slots where one with that hint was found last. And as many names that no entry had.
use Rattle.std.specs.Prelude.{◌≡◌, ◌≢◌, ◌⊎◌, ℕ, ◌+◌, ◌*◌, ◌/◌, ◌%◌, ◌^◌, ◌==◌, ◌<◌, ◌≤◌, ◌&&◌, if◌then◌else◌, min, not, Bool, IsTrue, List, length, set, replicate, slice_index_or, Option, Some, None, IfSome}
use Rattle.passive_list.specs.Types.{Change, Entry, Iface, Key, Kind, Name}
use Rattle.registry_values.specs.Common.{is_key, kind_word, same_key}
use Rattle.protocol.specs.Common.{IsAttached, IsLookup, entry_with}
use Rattle.cpu_words.specs.Common.{key_with}
use Rattle.passive_list.specs.declared.lookup.Seen.{Seen}
use Rattle.passive_list.specs.declared.memory.Hint.{Hint}
use Rattle.passive_list.specs.declared.memory.Memo.{Memo}
use Rattle.passive_list.specs.declared.memory.Miss.{Miss}
use Rattle.passive_list.specs.declared.memory.TheConstants.{HINTS, HINT_SPAN, MIX, MOST_MISSES, SPARE_MISSES}

-- the last misses, to a contract: by hint of a name the two places of the last ones with that hint, and the place of the next one
pub record Missed : Type 0 where
  pub places : List Miss
  pub hints : List Hint
  pub next : ℕ

-- a memory, to a contract
pub record Memory : Type 0 where
  pub rows : List Memo
  pub hints : List Hint
  pub missed : Missed

-- the name of a row of no entry, which no entry has
abbrev pub no_name : Name
no_name = record { high = 0; low = 0 }

abbrev pub no_memo : Memo
no_memo = record { number = 0; value = 0; kind = 0; name = no_name }

abbrev pub no_miss : Miss
no_miss = record { number = 0; kind = Iface; name = record { high = 0; low = 0 } }

abbrev pub no_hint : Hint
no_hint = record { last = 0; older = 0 }

-- of nothing, for so many slots
abbrev pub no_misses : ℕ → Missed
no_misses slots = record { places = replicate (min (slots + SPARE_MISSES) MOST_MISSES) no_miss; hints = replicate HINTS no_hint; next = 0 }

abbrev pub no_memory : ℕ → Memory
no_memory slots = record { rows = replicate slots no_memo; hints = replicate HINTS no_hint; missed = no_misses slots }

abbrev pub memo_at : List Memo → ℕ → Memo
memo_at rows t = slice_index_or rows t no_memo

abbrev pub memo_with : ℕ → Name → Seen → Memo
memo_with word name s = record { number = s.number; value = s.value; kind = word; name = name }

abbrev pub memo_of : Key → Seen → Memo
memo_of key s = memo_with (kind_word key.kind) key.name s

abbrev pub miss_at : List Miss → ℕ → Miss
miss_at missed i = slice_index_or missed i no_miss

-- an entry with the number n was attached
pub record HasNumbered (h : List Change) (n : ℕ) : Type 0 where
  pub entry : Entry
  pub attached : IsAttached h entry
  pub number : entry.number ≡ n

-- At some point of h no entry with the key was live, and the entry with the number n had been attached.
pub record WasAbsent (h : List Change) (key : Key) (n : ℕ) : Type 0 where
  pub newest : HasNumbered h n
  pub point : ℕ
  pub from_on : n ≤ point
  pub up_to : point ≤ length h
  pub answered : IsLookup h point key None

-- the miss is of nothing, or what it says was so in h
abbrev pub IsTrueMiss : List Change → Miss → Type 0
IsTrueMiss h m = m.number ≢ 0 → WasAbsent h (record { kind = m.kind; name = m.name }) m.number

-- the row of the slot t is of an entry that was attached there by the end of h
pub record IsEntrys (slots : ℕ) (h : List Change) (t : ℕ) (m : Memo) : Type 0 where
  pub few : t < slots
  pub of : Kind
  pub word : m.kind ≡ kind_word of
  pub attached : IsAttached h (entry_with (key_with of m.name) t m.number m.value)

-- All rows are there, and all hints. Each row is of no entry, or of an entry that was attached in that slot by the end of h; each miss is true of h
pub record Remembers (slots : ℕ) (h : List Change) (m : Memory) : Type 0 where
  pub size : length m.rows ≡ slots
  pub hints : length m.hints ≡ HINTS
  pub each : (t : ℕ) → (memo_at m.rows t ≡ no_memo) ⊎ IsEntrys slots h t (memo_at m.rows t)
  pub absent : (i : ℕ) → IsTrueMiss h (miss_at m.missed.places i)

-- the row has a kind's word and a name
pub record IsRow (word : ℕ) (called : Name) (m : Memo) : Type 0 where
  pub kind : m.kind ≡ word
  pub name : m.name ≡ called

-- s is what the row of its slot says, which has them
pub record IsOfRow (rows : List Memo) (word : ℕ) (name : Name) (s : Seen) : Type 0 where
  pub few : s.slot < length rows
  pub is : memo_at rows s.slot ≡ memo_with word name s

-- What is remembered of a key

-- the hint of a name
abbrev pub hint_of : Name → ℕ
hint_of n = ((n.high + n.low) % 2 ^ 64 * MIX % 2 ^ 64) / HINT_SPAN

abbrev pub hint_at : List Hint → ℕ → Hint
hint_at hints i = slice_index_or hints i no_hint

-- each hint leads to places below n
abbrev pub LeadBelow : ℕ → List Hint → Type 0
LeadBelow n hints = (i : ℕ) → ((hint_at hints i).last < n) × ((hint_at hints i).older < n)

-- the slots that the hint of the name leads to
abbrev pub hinted : List Hint → Name → Hint
hinted hints n = hint_at hints (hint_of n)

-- what the row of the slot t says of a kind's word and a name
abbrev pub RecallsAt : List Memo → ℕ → Name → ℕ → Option Seen → Type 0
RecallsAt rows word name t None = t < length rows → IsRow word name (memo_at rows t) → ⊥
RecallsAt rows word name t (Some s) = (s.slot ≡ t) × IsOfRow rows word name s

-- what the CPU remembers of them: by the newer one of the name's hints, else by the older one
abbrev pub RecallsWords : Memory → ℕ → Name → Option Seen → Type 0
RecallsWords m word name found = ((s : Seen) × (found ≡ Some s) × RecallsAt m.rows word name (hinted m.hints name).last found) ⊎ (RecallsAt m.rows word name (hinted m.hints name).last None × RecallsAt m.rows word name (hinted m.hints name).older found)

-- and of a key
abbrev pub Recalls : Memory → Key → Option Seen → Type 0
Recalls m key found = RecallsWords m (kind_word key.kind) key.name found

-- What is found by a kind's word: of each kind with the word nothing, or of one kind, whose word it
-- is.
abbrev pub ByWord : ℕ → Option Seen → (Kind → Option Seen → Type 0) → Type 0
ByWord word None P = (k : Kind) → word ≡ kind_word k → P k None
ByWord word (Some s) P = (k : Kind) × (word ≡ kind_word k) × P k (Some s)

abbrev pub IsOfNoKind : ℕ → Type 0
IsOfNoKind word = (k : Kind) → word ≡ kind_word k → ⊥

-- A row of no entry doesn't have this word and this name.
abbrev pub IsSome : ℕ → Name → Type 0
IsSome word name = word ≡ 0 → IsTrue (is_key name)

-- s is remembered, as the newer one
abbrev pub with_seen : Memory → Key → Seen → Memory
with_seen m key s = record m {
  rows = set m.rows s.slot (memo_of key s);
  hints = if (hinted m.hints key.name).last == s.slot then m.hints else set m.hints (hint_of key.name) (record { last = s.slot; older = (hinted m.hints key.name).last });
}

-- What is remembered of other keys stays: of those that don't share the hint, and not the slot t, if there is one.
abbrev pub KeepsOthers : Key → Option ℕ → Memory → Memory → Type 0
KeepsOthers key t m n = (other : Key) (s : Seen) → hint_of other.name ≢ hint_of key.name → IfSome t (λ u. s.slot ≢ u) → Recalls m other (Some s) → Recalls n other (Some s)

-- The row of the slot t doesn't have the word and the name, if it is there. Each row is as before,
-- but for some that had them and are of no entry now.
pub record HasCleared (word : ℕ) (name : Name) (t : ℕ) (m n : Memory) : Type 0 where
  pub is : n ≡ record m { rows = n.rows }
  pub size : length n.rows ≡ length m.rows
  pub none : RecallsAt n.rows word name t None
  pub each : (u : ℕ) → (memo_at n.rows u ≡ memo_at m.rows u) ⊎ (IsRow word name (memo_at m.rows u) × (memo_at n.rows u ≡ no_memo))

-- both hints of the key's name lead to no row with the key
abbrev pub HasForgotten : Key → Memory → Memory → Type 0
HasForgotten key m n = (c : Memory) × HasCleared (kind_word key.kind) key.name (hinted m.hints key.name).last m c × HasCleared (kind_word key.kind) key.name (hinted m.hints key.name).older c n

-- What is remembered of a key that wasn't found

-- the miss is of the key, while the entry with the number n was the newest one
pub record IsMiss (key : Key) (n : ℕ) (m : Miss) : Type 0 where
  pub some : n ≢ 0
  pub number : m.number ≡ n
  pub kind : m.kind ≡ key.kind
  pub name : m.name ≡ key.name

-- it has the key, whatever its number
abbrev pub is_for : Key → Miss → Bool
is_for key m = same_key (record { kind = m.kind; name = m.name }) key

-- the miss at the newer one of a name's hints, if it has the key, else the one at the older one
abbrev pub miss_of : Missed → Key → Miss
miss_of m key = if is_for key (miss_at m.places (hinted m.hints key.name).last) then miss_at m.places (hinted m.hints key.name).last else miss_at m.places (hinted m.hints key.name).older

-- the CPU remembers that miss
abbrev pub Misses : Memory → Key → ℕ → Type 0
Misses m key n = IsMiss key n (miss_of m.missed key)

-- a miss of the key is in the place t
abbrev pub keeps : List Miss → Key → ℕ → Bool
keeps places key t = not ((miss_at places t).number == 0) && is_for key (miss_at places t)

abbrev pub missed_as : Key → ℕ → Miss
missed_as key n = record { number = n; kind = key.kind; name = key.name }

-- A miss is kept where one of its key was kept last. Else in the next place: what was there is lost, and the name's newer hint leads there.
abbrev pub with_missed : Missed → Key → ℕ → Missed
with_missed m key n = if keeps m.places key (hinted m.hints key.name).last then record m { places = set m.places (hinted m.hints key.name).last (missed_as key n) } else record {
  places = set m.places m.next (missed_as key n);
  hints = set m.hints (hint_of key.name) (record { last = m.next; older = (hinted m.hints key.name).last });
  next = (m.next + 1) % length m.places;
}

abbrev pub with_miss : Memory → Key → ℕ → Memory
with_miss m key n = record m { missed = with_missed m.missed key n }
