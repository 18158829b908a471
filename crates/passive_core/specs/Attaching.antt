-- What an attach and a detach answer, and what they leave.
use Rattle.std.specs.Prelude.{◌≡◌, ℕ, List, [], Option, Some, None, Bool, false, not, ◌⊎◌, Result, Ok, Err, slice_index_or, slice_set, ◌-◌, ◌++◌, map, length, replicate, true}
use Rattle.passive_core.specs.Types.{Entry, Record, Refusal, NoMemory, LocalPlace, Free, Slot, MOST_CPUS, Inside, NotFound, Rest, Key, Mark}
use Rattle.registry_values.specs.Common.{is_iface, is_taken, slot_of, slot_at, key_of_record, no_mark}
use Rattle.registry_values.specs.Answers as answers
use Rattle.protocol.specs.Common.{is_inside, is_driver_slot, number_standing, words_of, room_of, after_seeing, after_publish, State, row_at, local_at, with_biases, after_unpublish, snapshot_mark, IsLookup}
use Rattle.passive_core.specs.declared.machine.commands.attach.Before.{Before}
use Rattle.passive_core.specs.Commands.{all_seated}

-- What an attach answers, and what it leaves.

abbrev pub first_fit : State → Option ℕ
first_fit s = answers.first_fit s.slots s.keeps

-- the entry that an attach of the record makes
abbrev pub given_entry : State → Record → Result Entry Refusal
given_entry s rec = answers.given_entry (is_taken (key_of_record rec) s.slots) (first_fit s) (room_of s) rec

-- the record of an interface is unfit
abbrev pub attach_answer : State → ℕ → Record → Result Entry Refusal
attach_answer s c rec = answers.attach_answer (is_inside s c) (is_iface rec.kind) (given_entry s rec)

-- the entry with this number is a driver
abbrev pub is_driver_in : List Slot → Option ℕ → Bool
is_driver_in slots None = false
is_driver_in slots (Some t) = is_driver_slot (slot_at slots t)

abbrev pub is_driver_number : List Slot → Option ℕ → Bool
is_driver_number slots None = false
is_driver_number slots (Some n) = is_driver_in slots (slot_of slots n)

-- the live local reference with this id is to a driver
abbrev pub is_to_driver : State → ℕ → Bool
is_to_driver s id = is_driver_number s.slots (number_standing (local_at s.locals id))

-- a reference that isn't to a driver is unfit
abbrev pub attach_iface_answer : State → ℕ → Record → ℕ → Result Entry Refusal
attach_iface_answer s c rec id = answers.attach_answer (is_inside s c) (not (is_to_driver s id)) (given_entry s rec)

-- the answer is the one given; or, where that is an entry, memory was refused
abbrev pub IsAnswer : Result Entry Refusal → Result Entry Refusal → Type 0
IsAnswer (Ok e) answer = (answer ≡ Ok e) ⊎ (answer ≡ Err NoMemory)
IsAnswer (Err refusal) answer = answer ≡ Err refusal

-- the words of e's slot are stored: its record, its counts, and its link to the entry that is the newest now
abbrev pub with_prepared : State → Entry → State
with_prepared s e = record s {
  rows = slice_set s.rows e.slot (words_of e);
  counts = slice_set s.counts e.slot (with_biases s.settings.cpus (slice_index_or s.counts e.slot []));
  next = slice_set s.next e.slot s.head;
}

-- e was prepared and linked, and c has seen it
abbrev pub with_linked : State → ℕ → Entry → State
with_linked s c e = after_seeing (after_publish (with_prepared s e) e.slot e) c

abbrev pub with_attached : State → ℕ → Entry → State
with_attached s c e = with_linked (all_seated s) c e

-- a refusal changes nothing
abbrev pub after_attach : State → ℕ → Result Entry Refusal → State
after_attach s c (Ok e) = with_attached s c e
after_attach s c (Err refusal) = s

-- the slot t takes the live local reference with this id over: it keeps what the reference is to
abbrev pub with_reference_kept : State → ℕ → ℕ → State
with_reference_kept s t id = record s { locals = slice_set s.locals id Free; keeps = slice_set s.keeps t (number_standing (local_at s.locals id)) }

-- e's slot took the reference over, before e was prepared and linked
abbrev pub with_attached_iface : State → ℕ → Entry → ℕ → State
with_attached_iface s c e id = with_linked (with_reference_kept (all_seated s) e.slot id) c e

abbrev pub after_attach_iface : State → ℕ → ℕ → Result Entry Refusal → State
after_attach_iface s c id (Ok e) = with_attached_iface s c e id
after_attach_iface s c id (Err refusal) = s

-- How an attach leaves all as it was where memory is refused: the words of its slot and the seats, and the reference that the slot took over.
abbrev pub words_before : State → ℕ → Before
words_before s t = record { seated = s.seated; row = row_at s.rows t; counts = slice_index_or s.counts t []; link = slice_index_or s.next t 0 }

abbrev pub with_attach_undone : State → ℕ → Before → State
with_attach_undone s t before = record s {
  seated = before.seated;
  rows = slice_set s.rows t before.row;
  counts = slice_set s.counts t before.counts;
  next = slice_set s.next t before.link;
}

abbrev pub with_reference_given_back : State → ℕ → ℕ → LocalPlace → State
with_reference_given_back s t id place = record s { locals = slice_set s.locals id place; keeps = slice_set s.keeps t None }

-- What a detach answers, and what it leaves.

-- of each CPU its section word as the snapshot, and no marks
abbrev pub snapshot_row : State → List Mark
snapshot_row s = map snapshot_mark s.section ++ replicate (MOST_CPUS - s.settings.cpus) no_mark

-- all snapshots for the slot were taken
abbrev pub with_all_snapshots : State → ℕ → State
with_all_snapshots s t = record s { marks = slice_set s.marks t (snapshot_row s); due = Rest }

-- e was unlinked with its snapshots taken, and c has seen it
abbrev pub with_detached : State → ℕ → Entry → State
with_detached s c e = after_seeing (with_all_snapshots (after_unpublish (all_seated s) e.slot e) e.slot) c

-- a refusal changes nothing
abbrev pub after_detach : State → ℕ → Result Entry Refusal → State
after_detach s c (Ok e) = with_detached s c e
after_detach s c (Err r) = s

-- the result of a lookup now
abbrev pub IsLookupNow : State → Key → Option Entry → Type 0
IsLookupNow s key answer = IsLookup s.history (length s.history) key answer

abbrev pub IsDetachRefusal : State → ℕ → Key → Refusal → Type 0
IsDetachRefusal s c key Inside = is_inside s c ≡ true
IsDetachRefusal s c key NotFound = (is_inside s c ≡ false) × IsLookupNow s key None
IsDetachRefusal s c key NoMemory = (is_inside s c ≡ false) × ((e : Entry) × IsLookupNow s key (Some e))
IsDetachRefusal s c key _ = ⊥

-- The entry that a lookup of the key gives now. Refused inside a section, if there is none, and if memory runs out, in this order.
abbrev pub IsDetachAnswer : State → ℕ → Key → Result Entry Refusal → Type 0
IsDetachAnswer s c key (Ok e) = (is_inside s c ≡ false) × IsLookupNow s key (Some e)
IsDetachAnswer s c key (Err r) = IsDetachRefusal s c key r
