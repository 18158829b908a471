-- The events, a line each: where it is allowed, the state that it leaves, and its reply.
use Rattle.std.specs.Prelude.{ℕ, zero, suc, ◌+◌, ◌-◌, ◌*◌, ◌==◌, nat_le, nat_lt, List, ◌∷◌, [], ◌++◌, length, replicate, position, Option, Some, None, is_none, is_some, Bool, true, false, not, ◌&&◌, ◌||◌, if◌then◌else◌, slice_index_or, slice_set, take}
use Rattle.std.specs.List.{list_all}
use Rattle.protocol.specs.Types.{MOST_CPUS, Room, Kind, Iface, Driver, Entry, Attach, Detach, Replace, Key, Slot, Vacant, Live, Retired, Mark}
use Rattle.protocol.specs.declared.event.Event.{Event}
use Rattle.protocol.specs.declared.event.Event.TheVariants.{Seat, Enter, Exit, Seek, LoadLink, LoadRecord, Tell, Hear, PassiveAdd, PassiveSub, CountAdd, SplitRef, JoinRef, CountDown, SplitBack, Recall, RecallHead, Refind, Try, Confirm, TakeBack}
use Rattle.protocol.specs.declared.event.Event.TheVariants.{StoreSlot, StoreNext, Publish, Unpublish, Republish, Snapshot, Look, PassiveLook, Collect, TotalAdd, JoinKeeper, TotalSub, Keep, KeptSub, Vacate, Show, Hide}
use Rattle.protocol.specs.declared.event.RecordOf.{RecordOf}
use Rattle.protocol.specs.declared.event.RecordOf.TheVariants.{Search as OfSearch, Passive as OfPassive, Local as OfLocal, Compared as OfCompared}
use Rattle.protocol.specs.declared.event.Reply.{Reply}
use Rattle.protocol.specs.declared.event.Reply.TheVariants.{Done, Word, Found, Missed, Ref, Collected}
use Rattle.protocol.specs.declared.state.RecordWords.{RecordWords}
use Rattle.protocol.specs.declared.state.SearchPlace.{SearchPlace}
use Rattle.protocol.specs.declared.state.SearchPlace.TheVariants.{AtHead, AtNext, AtNumber, AtKind, AtHigh, AtLow, AtValue}
use Rattle.protocol.specs.declared.state.Search.{Search}
use Rattle.protocol.specs.declared.state.Loaded.{Loaded}
use Rattle.protocol.specs.declared.state.Loaded.TheVariants.{On, Over}
use Rattle.protocol.specs.declared.state.Hand.{Hand}
use Rattle.protocol.specs.declared.state.Hand.TheVariants.{Empty, Taking, Giving, Back, Trying}
use Rattle.protocol.specs.declared.state.LocalPlace.{LocalPlace}
use Rattle.protocol.specs.declared.state.LocalPlace.TheVariants.{Free, Standing, Lifted}
use Rattle.protocol.specs.declared.state.Due.{Due}
use Rattle.protocol.specs.declared.state.Due.TheVariants.{Rest, Snapshots, Adding, Subtracting}
use Rattle.protocol.specs.History.{after_change, rank_at}
use Rattle.protocol.specs.State.{loaded_at, row_of_place, State, with_cell, section_at, begin_at, depth_at, seen_at, search_at, found_at, hand_at, row_at, mark_at, passive_at, count_at, total_at, live_at, kept_at, local_at, is_empty, at_rest}
use Rattle.registry_values.specs.Answers as answers
use Rattle.registry_values.specs.Common.{key_of, same_key, slot_at, kind_word, is_iface, is_driver, is_vacant, is_retired, is_taken, live_count, slot_of, slot_before, bias, no_mark, have_passed, are_clear, are_collected, is_some_collected, mark_after_passive_look, mark_after_collect, mark_after_look}
use Rattle.registry_values.specs.Names.{are_key_words, are_name_words}

-- what an event leaves and answers
pub record Outcome : Type 0 where
  pub state : State
  pub reply : Reply

-- the outcome, if the test passes
abbrev pub guard : Bool → Option Outcome → Option Outcome
guard true o = o
guard false o = None

abbrev pub some_outcome : State → Reply → Option Outcome
some_outcome s r = Some (record { state = s; reply = r })

-- what follows from a value that may be missing
abbrev pub with_some : {X : Type 0} → Option X → (X → Option Outcome) → Option Outcome
with_some None f = None
with_some (Some x) f = f x

-- the CPU is seated, has no search under way and nothing in its hand
abbrev pub is_idle : State → ℕ → Bool
is_idle s c = nat_lt c s.seated && (is_none (search_at s c) && is_empty (hand_at s c))

abbrev pub is_outside : State → ℕ → Bool
is_outside s c = is_none (begin_at s c)

abbrev pub is_inside : State → ℕ → Bool
is_inside s c = is_some (begin_at s c)

-- for the keeper: at rest, with a slot in range that is vacant, or retired and a CPU in range
abbrev pub may_write : State → ℕ → Bool
may_write s t = at_rest s.due && (nat_lt t s.settings.slots && is_vacant (slot_at s.slots t))

abbrev pub may_examine : State → ℕ → ℕ → Bool
may_examine s t c = at_rest s.due && (nat_lt c s.settings.cpus && is_retired (slot_at s.slots t))

-- Seats

abbrev pub may_seat : State → ℕ → Bool
may_seat s c = at_rest s.due && (c == s.seated && nat_lt c s.settings.cpus)

abbrev pub after_seat : State → ℕ → State
after_seat s c = record s { seated = c + 1 }

-- Sections

abbrev pub may_enter : State → ℕ → Bool
may_enter s c = is_idle s c && (is_outside s c && nat_lt (section_at s c) (2 * s.settings.section_limit))

abbrev pub after_enter : State → ℕ → State
after_enter s c = record s {
  section = slice_set s.section c (section_at s c + 1);
  begins = slice_set s.begins c (Some (length s.history));
  depths = slice_set s.depths c 1;
  seen = slice_set s.seen c (length s.history);
}

abbrev pub may_exit : State → ℕ → Bool
may_exit s c = is_idle s c && (is_inside s c && depth_at s c == 1)

abbrev pub after_exit : State → ℕ → State
after_exit s c = record s {
  section = slice_set s.section c (section_at s c + 1);
  begins = slice_set s.begins c None;
  depths = slice_set s.depths c 0;
  found = slice_set s.found c None;
}

-- Notes

-- all of the history is seen
abbrev pub after_seeing : State → ℕ → State
after_seeing s c = record s { seen = slice_set s.seen c (length s.history) }

abbrev pub tell : State → Option ℕ → Option Outcome
tell s (Some c) = guard (is_idle s c) (some_outcome s Done)
tell s None = guard (at_rest s.due) (some_outcome s Done)

abbrev pub hear : State → Option ℕ → Option Outcome
hear s (Some c) = guard (is_idle s c) (some_outcome (after_seeing s c) Done)
hear s None = guard (at_rest s.due) (some_outcome s Done)

-- Searches

abbrev pub may_seek : State → ℕ → Bool
may_seek s c = is_idle s c && is_inside s c

abbrev pub after_seek : State → ℕ → Key → State
after_seek s c key = record s { searches = slice_set s.searches c (Some (record { key = key; start = seen_at s c; place = AtHead })) }

-- the search q of c goes on at another place
abbrev pub with_search_at : State → ℕ → Search → SearchPlace → State
with_search_at s c q p = record s { searches = slice_set s.searches c (Some (record { key = q.key; start = q.start; place = p })) }

-- the search of c is over, and its answer is the last found entry
abbrev pub search_over : State → ℕ → Option Entry → State
search_over s c answer = record s { searches = slice_set s.searches c None; found = slice_set s.found c answer }

-- a search loaded a link: 0 is the end, else a slot plus 1
abbrev pub link_loaded : State → ℕ → Search → ℕ → Option Outcome
link_loaded s c q zero = some_outcome (search_over (after_seeing s c) c None) Missed
link_loaded s c q (suc t) = some_outcome (with_search_at (after_seeing s c) c q (AtNumber t)) (Word (suc t))

-- the link that a search at this place is to load
abbrev pub link_at : State → SearchPlace → Option ℕ
link_at s AtHead = Some s.head
link_at s (AtNext t) = Some (slice_index_or s.next t 0)
link_at s (AtNumber t) = None
link_at s (AtKind t n) = None
link_at s (AtHigh t n k) = None
link_at s (AtLow t n k h) = None
link_at s (AtValue t n) = None

abbrev pub load_link : State → ℕ → Search → SearchPlace → Option Outcome
load_link s c q place = with_some (link_at s place) (link_loaded s c q)

-- what a search makes of a record word: it goes on, or is over with the entry that it found
abbrev pub outcome_of : State → ℕ → Search → Option Loaded → Option Outcome
outcome_of s c q None = None
outcome_of s c q (Some (On p w)) = some_outcome (with_search_at s c q p) (Word w)
outcome_of s c q (Some (Over e)) = some_outcome (search_over s c (Some e)) (Found e)

abbrev pub load_searched : State → ℕ → Search → SearchPlace → Option Outcome
load_searched s c q place = outcome_of s c q (loaded_at q place (row_of_place s.rows place))

-- Words of records

abbrev pub word : RecordWords → ℕ → ℕ
word r zero = r.number
word r (suc zero) = r.kind
word r (suc (suc zero)) = r.high
word r (suc (suc (suc zero))) = r.low
word r (suc (suc (suc (suc k)))) = r.value

abbrev pub with_word : RecordWords → ℕ → ℕ → RecordWords
with_word r zero v = record { number = v; kind = r.kind; high = r.high; low = r.low; value = r.value }
with_word r (suc zero) v = record { number = r.number; kind = v; high = r.high; low = r.low; value = r.value }
with_word r (suc (suc zero)) v = record { number = r.number; kind = r.kind; high = v; low = r.low; value = r.value }
with_word r (suc (suc (suc zero))) v = record { number = r.number; kind = r.kind; high = r.high; low = v; value = r.value }
with_word r (suc (suc (suc (suc k)))) v = record { number = r.number; kind = r.kind; high = r.high; low = r.low; value = v }

abbrev pub words_of : Entry → RecordWords
words_of e = record { number = e.number; kind = kind_word e.rec.kind; high = e.rec.name.high; low = e.rec.name.low; value = e.rec.value }

abbrev pub load_passive : State → ℕ → ℕ → ℕ → Option Outcome
load_passive s c n k = with_some (slot_of s.slots n) (λ t. guard (is_idle s c && (nat_lt 0 (passive_at s.passive c t) && nat_lt k 5)) (some_outcome s (Word (word (row_at s.rows t) k))))

-- the number of a live local reference
abbrev pub number_standing : LocalPlace → Option ℕ
number_standing Free = None
number_standing (Standing n) = Some n
number_standing (Lifted c) = None

abbrev pub load_local : State → ℕ → ℕ → Option Outcome
load_local s id k = with_some (number_standing (local_at s.locals id)) (λ n. with_some (slot_of s.slots n) (λ t. guard (nat_lt k 5) (some_outcome s (Word (word (row_at s.rows t) k)))))

-- the slot whose entry a search at this place has compared: it isn't the one sought, and the search is to load the link there
abbrev pub compared_slot : SearchPlace → Option ℕ
compared_slot AtHead = None
compared_slot (AtNext t) = Some t
compared_slot (AtNumber t) = None
compared_slot (AtKind t n) = None
compared_slot (AtHigh t n k) = None
compared_slot (AtLow t n k h) = None
compared_slot (AtValue t n) = None

-- the value of that entry; nothing changes
abbrev pub load_compared : State → ℕ → Option Outcome
load_compared s c = with_some (search_at s c) (λ q. with_some (compared_slot q.place) (λ t. some_outcome s (Word (row_at s.rows t).value)))

-- The list

abbrev pub after_row_store : State → ℕ → ℕ → ℕ → State
after_row_store s t k v = record s { rows = slice_set s.rows t (with_word (row_at s.rows t) k v) }

abbrev pub after_count_store : State → ℕ → ℕ → ℕ → State
after_count_store s t c v = record s { counts = with_cell s.counts t c v }

abbrev pub store_slot : State → ℕ → ℕ → ℕ → Option Outcome
store_slot s t k v = if nat_lt k 5 then guard (may_write s t) (some_outcome (after_row_store s t k v) Done)
    else guard (may_write s t && nat_lt (k - 5) s.settings.cpus) (some_outcome (after_count_store s t (k - 5) v) Done)

abbrev pub after_link_store : State → ℕ → ℕ → State
after_link_store s t v = record s { next = slice_set s.next t v }

-- the kind of a word
abbrev pub kind_of : ℕ → Option Kind
kind_of zero = None
kind_of (suc zero) = Some Iface
kind_of (suc (suc zero)) = Some Driver
kind_of (suc (suc (suc n))) = None

-- the entry whose words these are: a kind's word, and a name that isn't both words 0
abbrev pub entry_if : ℕ → RecordWords → Option Kind → Option Entry
entry_if t r None = None
entry_if t r (Some kind) = if are_key_words r.high r.low
    then Some (record { number = r.number; slot = t; rec = record { kind = kind; name = record { high = r.high; low = r.low }; value = r.value } })
    else None

abbrev pub entry_of : ℕ → RecordWords → Option Entry
entry_of t r = entry_if t r (kind_of r.kind)

abbrev pub is_bias : ℕ → Bool
is_bias w = w == bias

abbrev pub are_unused : State → ℕ → Bool
are_unused s t = list_all is_bias (take s.settings.cpus (slice_index_or s.counts t [])) && total_at s.totals t == bias

-- what an attach asks of the history
abbrev pub room_of : State → Room
room_of s = record { changes = length s.history; live = live_count s.slots; limit = s.settings.change_limit }

abbrev pub has_room : State → Bool
has_room s = answers.has_room (room_of s)

-- the slot keeps a reference exactly if the kind is iface
abbrev pub keeps_rightly : Option ℕ → Kind → Bool
keeps_rightly None kind = is_driver kind
keeps_rightly (Some d) kind = is_iface kind

-- all is stored that the link needs
abbrev pub is_prepared : State → ℕ → Kind → Bool
is_prepared s t kind = slice_index_or s.next t 0 == s.head && (are_unused s t && keeps_rightly (kept_at s.keeps t) kind)

abbrev pub may_publish : State → ℕ → Entry → Bool
may_publish s t e = may_write s t && (e.number == length s.history + 1 && (not (is_taken (key_of e) s.slots)
    && (has_room s && is_prepared s t e.rec.kind)))

abbrev pub after_publish : State → ℕ → Entry → State
after_publish s t e = record s {
  head = t + 1;
  history = after_change s.history (Attach e);
  slots = slice_set s.slots t (Live e);
  nets = slice_set s.nets t (replicate MOST_CPUS bias);
}

-- the entry e of t is retired, without marks, and all snapshots are due
abbrev pub with_retired : State → ℕ → Entry → State
with_retired s t e = record s {
  history = after_change s.history (Detach e.number);
  slots = slice_set s.slots t (Retired e);
  marks = slice_set s.marks t (replicate MOST_CPUS no_mark);
  due = Snapshots t 0;
}

-- one store to the link that leads to t
abbrev pub with_link_past : State → ℕ → Option ℕ → State
with_link_past s t None = record s { head = slice_index_or s.next t 0 }
with_link_past s t (Some p) = record s { next = slice_set s.next p (slice_index_or s.next t 0) }

abbrev pub after_unpublish : State → ℕ → Entry → State
after_unpublish s t e = with_retired (with_link_past s t (slot_before s.slots s.next t)) t e

abbrev pub unpublish : State → ℕ → Slot → Option Outcome
unpublish s t Vacant = None
unpublish s t (Live e) = guard (at_rest s.due) (some_outcome (after_unpublish s t e) Done)
unpublish s t (Retired e) = None

-- an entry takes another's place

-- one store to the link that leads to the slot before which p is, or which is the first: it leads to t
abbrev pub with_link_to : State → ℕ → Option ℕ → State
with_link_to s t None = record s { head = t + 1 }
with_link_to s t (Some p) = record s { next = slice_set s.next p (t + 1) }

-- all is stored in t that its entry e needs to take the place of f, which is live in u
abbrev pub may_republish : State → ℕ → ℕ → Entry → Entry → Bool
may_republish s t u e f = may_write s t && (e.number == length s.history + 1 && (same_key (key_of e) (key_of f)
    && (has_room s && (slice_index_or s.next t 0 == slice_index_or s.next u 0 && (are_unused s t && keeps_rightly (kept_at s.keeps t) e.rec.kind)))))

-- e is live in t, and f of u is retired, without marks, and all snapshots are due
abbrev pub with_replaced : State → ℕ → ℕ → Entry → Entry → State
with_replaced s t u e f = record s {
  history = after_change s.history (Replace f.number (rank_at s.history f.number) e);
  slots = slice_set (slice_set s.slots t (Live e)) u (Retired f);
  nets = slice_set s.nets t (replicate MOST_CPUS bias);
  marks = slice_set s.marks u (replicate MOST_CPUS no_mark);
  due = Snapshots u 0;
}

abbrev pub after_republish : State → ℕ → ℕ → Entry → Entry → State
after_republish s t u e f = with_replaced (with_link_to s t (slot_before s.slots s.next u)) t u e f

abbrev pub republish : State → ℕ → ℕ → Entry → Slot → Option Outcome
republish s t u e Vacant = None
republish s t u e (Live f) = guard (may_republish s t u e f) (some_outcome (after_republish s t u e f) Done)
republish s t u e (Retired f) = None

-- Grace

abbrev pub due_after : State → ℕ → ℕ → Due
due_after s t c = if nat_lt (c + 1) s.settings.cpus then Snapshots t (c + 1) else Rest

abbrev pub is_snapshot_due : Due → ℕ → ℕ → Bool
is_snapshot_due Rest t c = false
is_snapshot_due (Snapshots a b) t c = a == t && b == c
is_snapshot_due (Adding a old) t c = false
is_snapshot_due (Subtracting a) t c = false

abbrev pub snapshot_mark : ℕ → Mark
snapshot_mark w = record { snapshot = Some w; passed = false; clear = false; collected = false }

abbrev pub after_snapshot : State → ℕ → ℕ → State
after_snapshot s t c = record s { marks = with_cell s.marks t c (snapshot_mark (section_at s c)); due = due_after s t c }

-- at rest, and the CPU is in range
abbrev pub may_glance : State → ℕ → Bool
may_glance s c = at_rest s.due && nat_lt c s.settings.cpus

abbrev pub snapshot : State → Option ℕ → ℕ → Option Outcome
snapshot s (Some t) c = guard (is_snapshot_due s.due t c) (some_outcome (after_snapshot s t c) (Word (section_at s c)))
snapshot s None c = guard (may_glance s c) (some_outcome s (Word (section_at s c)))

abbrev pub after_look : State → ℕ → ℕ → State
after_look s t c = record s { marks = with_cell s.marks t c (mark_after_look (mark_at s.marks t c) (section_at s c)) }

abbrev pub look : State → Option ℕ → ℕ → Option Outcome
look s (Some t) c = guard (may_examine s t c) (some_outcome (after_look s t c) (Word (section_at s c)))
look s None c = guard (may_glance s c) (some_outcome s (Word (section_at s c)))

-- Passive references

abbrev pub is_number : ℕ → Option Entry → Bool
is_number n None = false
is_number n (Some e) = e.number == n

abbrev pub may_add : State → ℕ → ℕ → ℕ → Bool
may_add s c n t = is_idle s c && ((is_number n (found_at s c) || nat_lt 0 (passive_at s.passive c t)) && nat_lt (passive_at s.passive c t) s.settings.passive_limit)

abbrev pub after_add : State → ℕ → ℕ → State
after_add s c t = record s { passive = with_cell s.passive t c (passive_at s.passive c t + 1) }

abbrev pub may_sub : State → ℕ → ℕ → Bool
may_sub s c t = is_idle s c && nat_lt 0 (passive_at s.passive c t)

abbrev pub after_sub : State → ℕ → ℕ → State
after_sub s c t = record s { passive = with_cell s.passive t c (passive_at s.passive c t - 1) }

abbrev pub may_look_passive : State → ℕ → ℕ → Bool
may_look_passive s t c = may_examine s t c && have_passed s.settings.cpus (slice_index_or s.marks t [])

abbrev pub after_look_passive : State → ℕ → ℕ → State
after_look_passive s t c = record s { marks = with_cell s.marks t c (mark_after_passive_look (mark_at s.marks t c) (passive_at s.passive c t)) }

-- Local references

abbrev pub may_count : State → ℕ → ℕ → Bool
may_count s c t = is_idle s c && nat_lt (count_at s.nets c t) (bias + s.settings.count_limit)

-- c's count for t is n more, or less, and so is its net count; what is in its hand changes
abbrev pub after_count : State → ℕ → ℕ → ℕ → ℕ → Hand → State
after_count s c t count net hand = record s { counts = with_cell s.counts t c count; nets = with_cell s.nets t c net; hands = slice_set s.hands c hand }

abbrev pub after_count_add : State → ℕ → ℕ → ℕ → State
after_count_add s c n t = after_count s c t (count_at s.counts c t + 1) (count_at s.nets c t + 1) (Taking n)

abbrev pub count_add : State → ℕ → Entry → Option Outcome
count_add s c e = with_some (slot_of s.slots e.number) (λ t. guard (may_count s c t) (some_outcome (after_count_add s c e.number t) (Word (count_at s.counts c t))))

-- the lowest id that no live reference and no hand has
abbrev pub is_free : LocalPlace → Bool
is_free Free = true
is_free (Standing n) = false
is_free (Lifted c) = false

abbrev pub id_if : List LocalPlace → Option ℕ → ℕ
id_if locals None = length locals
id_if locals (Some id) = id

abbrev pub least_id : List LocalPlace → ℕ
least_id locals = id_if locals (position is_free locals)

-- a place that the list may be too short for yet
abbrev pub with_local : List LocalPlace → ℕ → LocalPlace → List LocalPlace
with_local locals id p = if nat_lt id (length locals) then slice_set locals id p else locals ++ p ∷ []

abbrev pub after_split : State → ℕ → ℕ → State
after_split s c n = record s { hands = slice_set s.hands c Empty; locals = with_local s.locals (least_id s.locals) (Standing n) }

abbrev pub split_ref : State → ℕ → Hand → Option Outcome
split_ref s c Empty = None
split_ref s c (Taking n) = some_outcome (after_split s c n) (Ref (least_id s.locals))
split_ref s c (Giving n id) = None
split_ref s c (Back n id) = None
split_ref s c (Trying t n) = None

abbrev pub after_hand : State → ℕ → Hand → ℕ → LocalPlace → State
after_hand s c hand id p = record s { hands = slice_set s.hands c hand; locals = slice_set s.locals id p }

abbrev pub join_ref : State → ℕ → ℕ → Option Outcome
join_ref s c id = with_some (number_standing (local_at s.locals id)) (λ n. guard (is_idle s c) (some_outcome (after_hand s c (Giving n id) id (Lifted c)) Done))

-- a compare-exchange from the bias plus the net count, which fails where the word was collected
abbrev pub after_count_down : State → ℕ → ℕ → ℕ → State
after_count_down s c t id = record (after_count s c t (count_at s.counts c t - 1) (count_at s.nets c t - 1) Empty) { locals = slice_set s.locals id Free }

abbrev pub after_collected : State → ℕ → ℕ → ℕ → State
after_collected s c n id = record s { hands = slice_set s.hands c (Back n id) }

abbrev pub exchange : State → ℕ → ℕ → ℕ → ℕ → Option Outcome
exchange s c n id t =
    if count_at s.counts c t == count_at s.nets c t then some_outcome (after_count_down s c t id) (Word (count_at s.counts c t)) else some_outcome (after_collected s c n id) Collected

abbrev pub count_down : State → ℕ → Hand → Option Outcome
count_down s c Empty = None
count_down s c (Taking n) = None
count_down s c (Giving n id) = with_some (slot_of s.slots n) (exchange s c n id)
count_down s c (Back n id) = None
count_down s c (Trying t n) = None

abbrev pub split_back : State → ℕ → Hand → Option Outcome
split_back s c Empty = None
split_back s c (Taking n) = None
split_back s c (Giving n id) = None
split_back s c (Back n id) = some_outcome (after_hand s c Empty id (Standing n)) (Ref id)
split_back s c (Trying t n) = None

-- Draining

abbrev pub is_drainable : State → ℕ → Bool
is_drainable s t = have_passed s.settings.cpus (slice_index_or s.marks t []) && are_clear s.settings.cpus (slice_index_or s.marks t [])

abbrev pub may_collect : State → ℕ → ℕ → Bool
may_collect s t c = may_examine s t c && (is_drainable s t && not (mark_at s.marks t c).collected)

abbrev pub after_collect : State → ℕ → ℕ → State
after_collect s t c = record s { counts = with_cell s.counts t c 0; marks = with_cell s.marks t c (mark_after_collect (mark_at s.marks t c)); due = Adding t (count_at s.counts c t) }

abbrev pub after_total : State → ℕ → ℕ → State
after_total s t v = record s { totals = slice_set s.totals t v; due = Rest }

abbrev pub total_add : State → ℕ → Due → Option Outcome
total_add s t Rest = None
total_add s t (Snapshots u c) = None
total_add s t (Adding u old) = guard (u == t) (some_outcome (after_total s t (total_at s.totals t + old - bias)) Done)
total_add s t (Subtracting u) = None

abbrev pub total_sub : State → ℕ → Due → Option Outcome
total_sub s t Rest = None
total_sub s t (Snapshots u c) = None
total_sub s t (Adding u old) = None
total_sub s t (Subtracting u) = guard (u == t) (some_outcome (after_total s t (total_at s.totals t - 1)) Done)

abbrev pub may_join : State → ℕ → Bool
may_join s t = at_rest s.due && is_some_collected s.settings.cpus (slice_index_or s.marks t [])

-- a live entry has no marks
abbrev pub may_join_keeper : State → ℕ → Bool
may_join_keeper s t = is_retired (slot_at s.slots t) && may_join s t

abbrev pub after_join_keeper : State → ℕ → ℕ → State
after_join_keeper s id t = record s { locals = slice_set s.locals id Free; due = Subtracting t }

abbrev pub join_keeper : State → ℕ → Option Outcome
join_keeper s id = with_some (number_standing (local_at s.locals id)) (λ n. with_some (slot_of s.slots n) (λ t. guard (may_join_keeper s t) (some_outcome (after_join_keeper s id t) Done)))

-- Kept drivers and the end of a slot's use

abbrev pub is_driver_slot : Slot → Bool
is_driver_slot Vacant = false
is_driver_slot (Live e) = is_driver e.rec.kind
is_driver_slot (Retired e) = is_driver e.rec.kind

abbrev pub may_keep : State → ℕ → ℕ → Bool
may_keep s t u = may_write s t && (is_none (kept_at s.keeps t) && is_driver_slot (slot_at s.slots u))

abbrev pub after_keep : State → ℕ → ℕ → ℕ → State
after_keep s t id n = record s { locals = slice_set s.locals id Free; keeps = slice_set s.keeps t (Some n) }

abbrev pub keep : State → ℕ → ℕ → Option Outcome
keep s t id = with_some (number_standing (local_at s.locals id)) (λ n. with_some (slot_of s.slots n) (λ u. guard (may_keep s t u) (some_outcome (after_keep s t id n) Done)))

-- all marks are set, nothing is held, and the keeper is at rest
abbrev pub is_drained : State → ℕ → Bool
is_drained s t = at_rest s.due && (is_retired (slot_at s.slots t) && (is_drainable s t && (are_collected s.settings.cpus (slice_index_or s.marks t []) && total_at s.totals t == bias)))

abbrev pub is_iface_slot : Slot → Bool
is_iface_slot Vacant = false
is_iface_slot (Live e) = is_iface e.rec.kind
is_iface_slot (Retired e) = is_iface e.rec.kind

abbrev pub after_kept_sub : State → ℕ → ℕ → State
after_kept_sub s t u = record s { totals = slice_set s.totals u (total_at s.totals u - 1); slots = slice_set s.slots t Vacant; keeps = slice_set s.keeps t None }

abbrev pub kept_sub : State → ℕ → Option Outcome
kept_sub s t = with_some (kept_at s.keeps t) (λ d. with_some (slot_of s.slots d) (λ u. guard (is_iface_slot (slot_at s.slots t) && is_drained s t) (some_outcome (after_kept_sub s t u) Done)))

abbrev pub may_vacate : State → ℕ → Bool
may_vacate s t = is_none (kept_at s.keeps t) && is_drained s t

abbrev pub after_vacate : State → ℕ → State
after_vacate s t = record s { slots = slice_set s.slots t Vacant }

-- Live words: which entries CPUs may recall

abbrev pub after_live_store : State → ℕ → ℕ → State
after_live_store s t v = record s { lives = slice_set s.lives t v }

-- the number of the slot's live entry is stored
abbrev pub show : State → ℕ → Slot → Option Outcome
show s t Vacant = None
show s t (Live e) = guard (at_rest s.due) (some_outcome (after_live_store s t e.number) Done)
show s t (Retired e) = None

abbrev pub may_hide : State → ℕ → Bool
may_hide s t = at_rest s.due && nat_lt t s.settings.slots

-- the number n is that of the slot's live entry
abbrev pub has_live : ℕ → Slot → Bool
has_live n Vacant = false
has_live n (Live e) = e.number == n
has_live n (Retired e) = false

-- the live word n of a slot is 0, or the number of the slot's live entry
abbrev pub is_honest : ℕ → Slot → Bool
is_honest zero x = true
is_honest (suc n) x = has_live (suc n) x

abbrev pub may_recall : State → ℕ → ℕ → Bool
may_recall s c t = nat_lt c s.seated && (is_none (search_at s c) && (nat_lt t s.settings.slots && is_honest (live_at s.lives t) (slot_at s.slots t)))

-- the load of a live word sees all of the history, as the load of a link does
abbrev pub recall : State → ℕ → ℕ → Option Outcome
recall s c t = guard (may_recall s c t) (some_outcome (after_seeing s c) (Word (live_at s.lives t)))

-- the head of the list is loaded outside of any search
abbrev pub may_recall_head : State → ℕ → Bool
may_recall_head s c = nat_lt c s.seated && is_none (search_at s c)

-- inside a section, with no search; the slot's live entry has the number n, and its live word says so
abbrev pub may_refind : State → ℕ → ℕ → ℕ → Entry → Bool
may_refind s c t n e = nat_lt c s.seated && (is_none (search_at s c) && (is_inside s c && (e.number == n && live_at s.lives t == n)))

-- all of the history is seen, and e is the last found entry
abbrev pub after_refind : State → ℕ → Entry → State
after_refind s c e = record (after_seeing s c) { found = slice_set s.found c (Some e) }

abbrev pub refind : State → ℕ → ℕ → ℕ → Slot → Option Outcome
refind s c t n Vacant = None
refind s c t n (Live e) = guard (may_refind s c t n e) (some_outcome (after_refind s c e) (Word (live_at s.lives t)))
refind s c t n (Retired e) = None

-- A passive reference without a section

-- c's passive word of t is v, and what is in its hand changes
abbrev pub after_tried : State → ℕ → ℕ → ℕ → Hand → State
after_tried s c t v hand = record s { passive = with_cell s.passive t c v; hands = slice_set s.hands c hand }

-- the CPU is idle and has fewer references in that slot than the limit; the attach of the number n is one that it has seen
abbrev pub may_try : State → ℕ → ℕ → ℕ → Bool
may_try s c t n = is_idle s c && (nat_le n (seen_at s c) && (nat_lt t s.settings.slots && nat_lt (passive_at s.passive c t) s.settings.passive_limit))

abbrev pub after_try : State → ℕ → ℕ → ℕ → State
after_try s c t n = after_tried s c t (passive_at s.passive c t + 1) (Trying t n)

-- no search is under way, and the entry that is tried is live
abbrev pub may_confirm : State → ℕ → ℕ → Slot → Bool
may_confirm s c n x = is_none (search_at s c) && has_live n x

-- what was tried is a reference
abbrev pub after_taking : State → ℕ → State
after_taking s c = record s { hands = slice_set s.hands c Empty }

-- and all of the history is seen
abbrev pub after_confirm : State → ℕ → State
after_confirm s c = after_seeing (after_taking s c) c

abbrev pub confirm : State → ℕ → Hand → Option Outcome
confirm s c Empty = None
confirm s c (Taking n) = None
confirm s c (Giving n id) = None
confirm s c (Back n id) = None
confirm s c (Trying t n) = guard (may_confirm s c n (slot_at s.slots t)) (some_outcome (after_confirm s c) (Word (live_at s.lives t)))

abbrev pub after_take_back : State → ℕ → ℕ → State
after_take_back s c t = after_tried s c t (passive_at s.passive c t - 1) Empty

abbrev pub take_back : State → ℕ → Hand → Option Outcome
take_back s c Empty = None
take_back s c (Taking n) = None
take_back s c (Giving n id) = None
take_back s c (Back n id) = None
take_back s c (Trying t n) = some_outcome (after_take_back s c t) (Word (passive_at s.passive c t))

abbrev pub load_record : State → RecordOf → Option Outcome
load_record s (OfSearch c) = with_some (search_at s c) (λ q. load_searched s c q q.place)
load_record s (OfPassive c n k) = load_passive s c n k
load_record s (OfLocal id k) = load_local s id k
load_record s (OfCompared c) = load_compared s c

-- What an event does and answers, or None where it isn't allowed.
abbrev pub step : State → Event → Option Outcome
step s (Seat c) = guard (may_seat s c) (some_outcome (after_seat s c) Done)
step s (Enter c) = guard (may_enter s c) (some_outcome (after_enter s c) Done)
step s (Exit c) = guard (may_exit s c) (some_outcome (after_exit s c) Done)
step s (Seek c kind name) = guard (may_seek s c) (some_outcome (after_seek s c (record { kind = kind; name = name })) Done)
step s (LoadLink c) = with_some (search_at s c) (λ q. load_link s c q q.place)
step s (LoadRecord of) = load_record s of
step s (StoreSlot t k v) = store_slot s t k v
step s (StoreNext t v) = guard (may_write s t) (some_outcome (after_link_store s t v) Done)
step s (Publish t) = with_some (entry_of t (row_at s.rows t)) (λ e. guard (may_publish s t e) (some_outcome (after_publish s t e) Done))
step s (Unpublish t) = unpublish s t (slot_at s.slots t)
step s (Republish t u) = with_some (entry_of t (row_at s.rows t)) (λ e. republish s t u e (slot_at s.slots u))
step s (Tell to) = tell s to
step s (Hear to) = hear s to
step s (Snapshot to c) = snapshot s to c
step s (Look to c) = look s to c
step s (PassiveAdd c n) = with_some (slot_of s.slots n) (λ t. guard (may_add s c n t) (some_outcome (after_add s c t) (Word (passive_at s.passive c t))))
step s (PassiveSub c n) = with_some (slot_of s.slots n) (λ t. guard (may_sub s c t) (some_outcome (after_sub s c t) (Word (passive_at s.passive c t))))
step s (PassiveLook t c) = guard (may_look_passive s t c) (some_outcome (after_look_passive s t c) (Word (passive_at s.passive c t)))
step s (CountAdd c) = with_some (found_at s c) (count_add s c)
step s (SplitRef c) = split_ref s c (hand_at s c)
step s (JoinRef c id) = join_ref s c id
step s (CountDown c) = count_down s c (hand_at s c)
step s (SplitBack c) = split_back s c (hand_at s c)
step s (Collect t c) = guard (may_collect s t c) (some_outcome (after_collect s t c) (Word (count_at s.counts c t)))
step s (TotalAdd t) = total_add s t s.due
step s (JoinKeeper id) = join_keeper s id
step s (TotalSub t) = total_sub s t s.due
step s (Keep t id) = keep s t id
step s (KeptSub t) = kept_sub s t
step s (Vacate t) = guard (may_vacate s t) (some_outcome (after_vacate s t) Done)
step s (Show t) = show s t (slot_at s.slots t)
step s (Hide t) = guard (may_hide s t) (some_outcome (after_live_store s t 0) Done)
step s (Recall c t) = recall s c t
step s (RecallHead c) = guard (may_recall_head s c) (some_outcome (after_seeing s c) (Word s.head))
step s (Refind c t n) = refind s c t n (slot_at s.slots t)
step s (Try c t n) = guard (may_try s c t n) (some_outcome (after_try s c t n) (Word (passive_at s.passive c t)))
step s (Confirm c) = confirm s c (hand_at s c)
step s (TakeBack c) = take_back s c (hand_at s c)

-- every event but a Publish of a row whose name isn't lawful
abbrev pub names_lawfully : State → Event → Bool
names_lawfully s (Publish t) = are_name_words (row_at s.rows t).high (row_at s.rows t).low
names_lawfully s _ = true

-- The events of the pure machine: those of `step` but a Publish of a name that isn't lawful. The shared words make any event of `step`.
abbrev pub narrow_step : State → Event → Option Outcome
narrow_step s event = guard (names_lawfully s event) (step s event)

-- the state after an event, which is as it was where the event isn't allowed
abbrev pub state_after : State → Option Outcome → State
state_after s None = s
state_after s (Some o) = o.state

-- the events that may have to grow a list
abbrev pub grows : Event → Bool
grows (Publish t) = true
grows (Unpublish t) = true
grows (Republish t u) = true
grows (SplitRef c) = true
grows _ = false
