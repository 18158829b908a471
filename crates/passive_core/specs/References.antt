-- What the commands on passive (psref(9)) and local references (localcount(9)) answer and leave, and an audit of the counts.
use Rattle.std.specs.Prelude.{◌≡◌, ℕ, ◌+◌, ◌-◌, ◌==◌, nat_lt, List, Option, Some, None, Result, Ok, Err, [], ◌∷◌, ◌++◌, is_some, Bool, position, if◌then◌else◌, slice_set, zero, suc, ℤ, pos, ◌+ℤ◌, map, take, slice_index_or}
use Rattle.passive_core.specs.Types.{Entry, Change, Record, RecordOf, Word, Refusal, NothingFound, NoMemory, Event, JoinRef, CountDown, SplitBack, JoinKeeper, TotalSub, LocalPlace, Free, Standing, Slot, Vacant, Live, Retired}
use Rattle.registry_values.specs.Common.{unless, why_full, why_unusable, slot_of, bias, slot_at, Tally, less_bias, local_of, sum_of}
use Rattle.registry_values.specs.Answers as answers
use Rattle.protocol.specs.Common.{IsAttached, State, after_add, after_sub, load_record, some_outcome, put, passive_in, with_cell, count_at, total_at, found_at, local_at, is_free, least_id, number_standing, with_local, IsIn, held_at}
use Rattle.passive_core.specs.declared.psref.CorePsref.{CorePsref}
use Rattle.passive_core.specs.Commands.{all_seated}

-- how many passive references the CPU c has to the entry n; what it is trying is none
abbrev pub passive_of : State → ℕ → ℕ → ℕ
passive_of s c n = passive_in s.passive s.hands c (slot_of s.slots n)

-- the multiset of all CPUs' passive references has one of c to n more, or less, and is else as it was
abbrev pub IsOneMore : State → State → ℕ → ℕ → Type 0
IsOneMore old new c n = (d m : ℕ) → passive_of new d m ≡ put (passive_of old) c (put (passive_of old c) n (passive_of old c n + 1)) d m

abbrev pub IsOneLess : State → State → ℕ → ℕ → Type 0
IsOneLess old new c n = (d m : ℕ) → passive_of new d m ≡ put (passive_of old) c (put (passive_of old c) n (passive_of old c n - 1)) d m

-- one reference more of c to n, unless c has as many as it may
abbrev pub one_more : State → ℕ → ℕ → Result CorePsref Refusal
one_more s c n = unless (why_full (passive_of s c n) s.settings.passive_limit) (Ok (record { cpu = c; number = n }))

-- a reference of c to its last found entry
abbrev pub psref_to_found : State → ℕ → Option Entry → Result CorePsref Refusal
psref_to_found s c None = Err NothingFound
psref_to_found s c (Some e) = one_more s c e.number

-- why c may not use a reference
abbrev pub refusal_of : State → ℕ → CorePsref → Option Refusal
refusal_of s c p = why_unusable (p.cpu == c) (nat_lt 0 (passive_of s c p.number))

-- a second reference to n, unless the first may not be used
abbrev pub psref_copy : State → ℕ → ℕ → Option Refusal → Result CorePsref Refusal
psref_copy s c n refusal = unless refusal (one_more s c n)

-- the record of the entry that was attached under the number n
abbrev pub IsRecordOf : List Change → ℕ → Record → Type 0
IsRecordOf h n r = (e : Entry) × IsAttached h e × (e.number ≡ n) × (r ≡ e.rec)

-- the load of a record's word is allowed, and changes nothing
abbrev pub IsWordLoad : State → RecordOf → Type 0
IsWordLoad s of = (w : ℕ) × (load_record s of ≡ some_outcome s (Word w))

-- all CPUs are seated, and c has a reference more, or less, to the entry in that slot
abbrev pub with_one_more : State → ℕ → Option ℕ → State
with_one_more s c None = all_seated s
with_one_more s c (Some t) = after_add (all_seated s) c t

abbrev pub with_one_less : State → ℕ → Option ℕ → State
with_one_less s c None = all_seated s
with_one_less s c (Some t) = after_sub (all_seated s) c t

-- what stands after such a call; a refused one has changed nothing
abbrev pub after_acquire : State → ℕ → Result CorePsref Refusal → State
after_acquire s c (Ok p) = with_one_more s c (slot_of s.slots p.number)
after_acquire s c (Err f) = s

abbrev pub after_release : {X : Type 0} → State → ℕ → ℕ → Result X Refusal → State
after_release s c n (Ok x) = with_one_less s c (slot_of s.slots n)
after_release s c n (Err f) = s

-- a call that only reads has seated the CPUs
abbrev pub after_read : {X : Type 0} → State → Result X Refusal → State
after_read s (Ok x) = all_seated s
after_read s (Err f) = s

-- What the commands on local references answer and leave (localcount(9)).

-- the count word of c, or its net count word, for the entry in that slot
abbrev pub count_in : List (List ℕ) → ℕ → Option ℕ → ℕ
count_in counts c None = 0
count_in counts c (Some t) = count_at counts c t

-- why c takes no reference to what it found last: it has found nothing, or its own net count is as large as it may be
abbrev pub count_refusal : State → ℕ → Option Entry → Option Refusal
count_refusal s c None = Some NothingFound
count_refusal s c (Some e) = answers.why_uncounted (count_in s.nets c (slot_of s.slots e.number)) (bias + s.settings.count_limit)

-- the result: the lowest id that no live reference and no hand has; memory is refused only if each id up to the greatest is in use
abbrev pub IsCounted : State → Option Refusal → Result ℕ Refusal → Type 0
IsCounted s refusal (Ok id) = (refusal ≡ None) × (id ≡ least_id s.locals)
IsCounted s refusal (Err NoMemory) = (refusal ≡ None) × (position is_free s.locals ≡ None)
IsCounted s refusal (Err f) = refusal ≡ Some f

-- all CPUs are seated, c's count for the entry n is one more, and one live reference more is to n
abbrev pub with_count_more : State → ℕ → ℕ → Option ℕ → State
with_count_more s c n None = all_seated s
with_count_more s c n (Some t) = record (all_seated s) {
  counts = with_cell s.counts t c (count_at s.counts c t + 1);
  nets = with_cell s.nets t c (count_at s.nets c t + 1);
  locals = with_local s.locals (least_id s.locals) (Standing n);
}

abbrev pub after_counting : State → ℕ → Option Entry → State
after_counting s c None = all_seated s
after_counting s c (Some e) = with_count_more s c e.number (slot_of s.slots e.number)

abbrev pub after_acquire_local : State → ℕ → Result ℕ Refusal → State
after_acquire_local s c (Ok id) = after_counting s c (found_at s c)
after_acquire_local s c (Err f) = s

-- the reference with this id is live
abbrev pub is_live_local : State → ℕ → Bool
is_live_local s id = is_some (number_standing (local_at s.locals id))

-- the slot of the entry that it is to
abbrev pub slot_if : List Slot → Option ℕ → Option ℕ
slot_if slots None = None
slot_if slots (Some n) = slot_of slots n

abbrev pub local_slot : State → ℕ → Option ℕ
local_slot s id = slot_if s.slots (number_standing (local_at s.locals id))

-- c's word counts the slot: it isn't collected
abbrev pub is_counting : State → ℕ → Option ℕ → Bool
is_counting s c o = nat_lt 0 (count_in s.counts c o)

-- the reference is given up by c's own count
abbrev pub with_count_less : State → ℕ → ℕ → Option ℕ → State
with_count_less s c id None = s
with_count_less s c id (Some t) = record s {
  counts = with_cell s.counts t c (count_at s.counts c t - 1);
  nets = with_cell s.nets t c (count_at s.nets c t - 1);
  locals = slice_set s.locals id Free;
}

-- it is given up under the interlock, by the total
abbrev pub with_total_less : State → ℕ → Option ℕ → State
with_total_less s id None = s
with_total_less s id (Some t) = record s { totals = slice_set s.totals t (total_at s.totals t - 1); locals = slice_set s.locals id Free }

abbrev pub after_release_local : State → ℕ → ℕ → State
after_release_local s c id = if is_counting s c (local_slot s id) then with_count_less (all_seated s) c id (local_slot s id) else with_total_less (all_seated s) id (local_slot s id)

-- the events of a release under the interlock, by the total of that slot
abbrev pub under_events : ℕ → Option ℕ → List Event
under_events id None = []
under_events id (Some t) = JoinKeeper id ∷ TotalSub t ∷ []

-- the events of a release, once all CPUs are seated
abbrev pub release_events : State → ℕ → ℕ → List Event
release_events s c id = if is_counting s c (local_slot s id) then JoinRef c id ∷ CountDown c ∷ [] else (JoinRef c id ∷ CountDown c ∷ SplitBack c ∷ []) ++ under_events id (local_slot s id)

-- a list of places has a free one, which is added at its end if need be
abbrev pub free_added : List LocalPlace → Option ℕ → List LocalPlace
free_added locals None = locals ++ Free ∷ []
free_added locals (Some id) = locals

abbrev pub with_room : State → State
with_room s = record s { locals = free_added s.locals (position is_free s.locals) }

-- What an audit of the counts answers (localcount(9)).

abbrev pub locals_at : State → ℕ → List ℤ
locals_at s t = map local_of (take s.settings.cpus (slice_index_or s.counts t []))

abbrev pub tally_of : State → ℕ → ℕ → Tally
tally_of s n t = record {
  number = n;
  slot = t;
  held = sum_of (locals_at s t) +ℤ less_bias (total_at s.totals t);
  locals = locals_at s t;
  total = less_bias (total_at s.totals t);
}

-- of a slot, if it is occupied
abbrev pub tallies_at : State → ℕ → Slot → List Tally
tallies_at s t Vacant = []
tallies_at s t (Live e) = tally_of s e.number t ∷ []
tallies_at s t (Retired e) = tally_of s e.number t ∷ []

-- of the slots below a number, least first
abbrev pub tallies_below : State → ℕ → List Tally
tallies_below s zero = []
tallies_below s (suc t) = tallies_below s t ++ tallies_at s t (slot_at s.slots t)

-- of each live or retired slot
abbrev pub audit_of : State → List Tally
audit_of s = tallies_below s s.settings.slots

-- the tally is right: it is the number of local references held
abbrev pub IsHeldRightly : State → Tally → Type 0
IsHeldRightly s tally = tally.held ≡ pos (held_at s.locals s.hands s.keeps s.due tally.number tally.slot)

-- some slot has a live or retired entry
abbrev pub IsOccupied : State → Type 0
IsOccupied s = (t : ℕ) × (e : Entry) × IsIn e (slot_at s.slots t)
