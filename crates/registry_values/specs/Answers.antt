-- What calls answer: refusals and their numbers, the stage of a retired entry, the counts of an entry.
use Rattle.std.specs.Prelude.{ℕ, ◌+◌, ◌==◌, nat_lt, nat_le, List, position, Option, Some, None, Bool, not, ◌&&◌, Result, Ok, Err, if◌then◌else◌, ◌≡◌, zero, suc, ℤ, pos, ◌+ℤ◌, ◌-ℤ◌, fold}
use Rattle.std.specs.List.{zip}
use Rattle.registry_values.specs.declared.answer.Room.{Room}
use Rattle.registry_values.specs.declared.entry.Entry.{Entry}
use Rattle.registry_values.specs.declared.entry.Record.{Record}
use Rattle.registry_values.specs.declared.limits.TheConstants.{MOST_DEPTH, BIAS}
use Rattle.registry_values.specs.declared.refusal.Refusal.{Refusal}
use Rattle.registry_values.specs.declared.refusal.Refusal.TheVariants.{NameTaken, NoSlot, HistoryFull, Inside, NeedsDriver, TooDeep, SectionsSpent, PassiveFull, WrongCpu, NotHeld, LocalFull, NotFound, Waiting, NoMemory, BadSettings, NothingFound, NotRetired, MissingCpu, StillHeld}
use Rattle.registry_values.specs.declared.slot.Slot.{Slot}
use Rattle.registry_values.specs.Slots.{is_available}
use Rattle.registry_values.specs.declared.stage.Stage.{Stage}
use Rattle.registry_values.specs.declared.stage.Stage.TheVariants.{Grace, Passive, Local, Freed}
use Rattle.registry_values.specs.declared.balance.Balance.{Balance}

-- The results of calls, from plain values: where the caller is, what is in the slots, and how far the history and the counts have come.

-- Attaching

-- the lowest-numbered slot that is vacant and keeps nothing
abbrev pub first_fit : List Slot → List (Option ℕ) → Option ℕ
first_fit slots keeps = position is_available (zip slots keeps)

-- the history has room for an attach, and for the detach of each entry that is live then
abbrev pub has_room : Room → Bool
has_room room = nat_le (room.changes + room.live + 2) room.limit

-- the entry of the next change
abbrev pub next_entry : ℕ → Record → ℕ → Entry
next_entry changes rec t = record { number = changes + 1; slot = t; rec = rec }

-- that entry, in the first-fit slot if there is one
abbrev pub entry_in : Option ℕ → Room → Record → Result Entry Refusal
entry_in None room rec = Err NoSlot
entry_in (Some t) room rec = if has_room room then Ok (next_entry room.changes rec t) else Err HistoryFull

-- The entry that an attach of the record makes. Refused where its kind and name are taken, no slot is available, or the history has no room.
abbrev pub given_entry : Bool → Option ℕ → Room → Record → Result Entry Refusal
given_entry taken fit room rec = if taken then Err NameTaken else entry_in fit room rec

-- An attach is refused inside a section, and where the entry is unfit for the call: an interface without a driver.
abbrev pub attach_answer : Bool → Bool → Result Entry Refusal → Result Entry Refusal
attach_answer inside unfit given = if inside then Err Inside else (if unfit then Err NeedsDriver else given)

-- Detaching

-- what was found, if anything
abbrev pub found_answer : {X : Type 0} → Option X → Result X Refusal
found_answer None = Err NotFound
found_answer (Some x) = Ok x

-- A detach is refused inside a section, and where there is no such live entry.
abbrev pub detach_answer : {X : Type 0} → Bool → Option X → Result X Refusal
detach_answer inside found = if inside then Err Inside else found_answer found

-- Sections

-- refused at the largest depth, and outside a section where the CPU may not begin one more
abbrev pub enter_answer : ℕ → Bool → Bool → Result (Unit {0}) Refusal
enter_answer depth outside may_begin = if depth == MOST_DEPTH then Err TooDeep else (if outside && not may_begin then Err SectionsSpent else Ok tt)

-- Waiting

-- the lowest-numbered CPU that is inside a section is waited for
abbrev pub wait_answer : Option ℕ → Result (Unit {0}) Refusal
wait_answer None = Ok tt
wait_answer (Some c) = Err (Waiting c)

abbrev pub perform_answer : Bool → Option ℕ → Result (Unit {0}) Refusal
perform_answer inside first = if inside then Err Inside else wait_answer first

-- Passive references

-- why there may not be one more than so many
abbrev pub why_full : ℕ → ℕ → Option Refusal
why_full count limit = if nat_lt count limit then None else Some PassiveFull

-- why a CPU may not use a reference: it is another CPU's, or this CPU holds none to that number
abbrev pub why_unusable : Bool → Bool → Option Refusal
why_unusable is_own is_held = if is_own then (if is_held then None else Some NotHeld) else Some WrongCpu

-- Local references

-- why a CPU's own count, which is so much, may not be one more, where so much is the most
abbrev pub why_uncounted : ℕ → ℕ → Option Refusal
why_uncounted count most = if nat_lt count most then None else Some LocalFull

-- a refusal, if there is one, else the answer
abbrev pub unless : {X E : Type 0} → Option E → Result X E → Result X E
unless None answer = answer
unless (Some f) answer = Err f

-- The numbers of the refusals.

abbrev pub number_of_refusal : Refusal → ℕ
number_of_refusal NoMemory = 1
number_of_refusal BadSettings = 2
number_of_refusal NameTaken = 3
number_of_refusal NoSlot = 4
number_of_refusal HistoryFull = 5
number_of_refusal NotFound = 6
number_of_refusal Inside = 7
number_of_refusal SectionsSpent = 8
number_of_refusal NothingFound = 9
number_of_refusal PassiveFull = 10
number_of_refusal WrongCpu = 11
number_of_refusal NotHeld = 12
number_of_refusal LocalFull = 13
number_of_refusal NotRetired = 14
number_of_refusal MissingCpu = 15
number_of_refusal (StillHeld stage) = 16
number_of_refusal (Waiting cpu) = 17
number_of_refusal TooDeep = 18
number_of_refusal NeedsDriver = 19

-- what making a core may answer
abbrev pub IsRefusalOfNew : Refusal → Type 0
IsRefusalOfNew NoMemory = Unit {0}
IsRefusalOfNew BadSettings = Unit {0}
IsRefusalOfNew _ = ⊥

-- the result of a call that is refused exactly where there is a refusal
abbrev pub Answers : {X : Type 0} → Option Refusal → (X → Type 0) → Result X Refusal → Type 0
Answers refusal P (Ok x) = (refusal ≡ None) × P x
Answers refusal P (Err f) = refusal ≡ Some f

-- The stage of a retired entry, and the result of a destroy from its last stage.

-- the first obstacle of the three; a number of local references that is 0 is none
abbrev pub stage_of : ℕ → Option ℕ → Option ℕ → ℕ → Stage
stage_of t (Some c) passive locals = Grace c
stage_of t None (Some c) locals = Passive c
stage_of t None None zero = Freed t
stage_of t None None (suc k) = Local (suc k)

-- the stage of what is retired in a slot, if one has it
abbrev pub stage_in : (ℕ → Stage) → Option ℕ → Result Stage Refusal
stage_in stage None = Err NotRetired
stage_in stage (Some t) = Ok (stage t)

-- the stage isn't the end
abbrev pub IsObstacle : Stage → Type 0
IsObstacle (Freed t) = ⊥
IsObstacle _ = Unit {0}

-- Destroying an entry: the result of an advance, with an obstacle as a refusal.
abbrev pub destroy_result : Stage → Result ℕ Refusal
destroy_result (Grace c) = Err (StillHeld (Grace c))
destroy_result (Passive c) = Err (StillHeld (Passive c))
destroy_result (Local k) = Err (StillHeld (Local k))
destroy_result (Freed t) = Ok t

abbrev pub destroy_result_of : Result Stage Refusal → Result ℕ Refusal
destroy_result_of (Err refusal) = Err refusal
destroy_result_of (Ok stage) = destroy_result stage

abbrev pub destroy_answer : Bool → Result Stage Refusal → Result ℕ Refusal
destroy_answer inside advance = if inside then Err Inside else destroy_result_of advance

-- What the counts of an entry say (localcount(9)).

-- a count of nothing
abbrev pub bias : ℕ
bias = BIAS

-- what is said of one entry
pub record Tally : Type 0 where
  pub number : ℕ
  pub slot : ℕ
  pub held : ℤ
  pub locals : List ℤ
  pub total : ℤ

abbrev pub less_bias : ℕ → ℤ
less_bias w = pos w -ℤ pos bias

-- the net count that a count word says; a collected word says nothing
abbrev pub local_of : ℕ → ℤ
local_of w = if w == 0 then pos 0 else less_bias w

abbrev pub sum_of : List ℤ → ℤ
sum_of numbers = fold ◌+ℤ◌ (pos 0) numbers

abbrev pub tally_shown : Balance → Tally
tally_shown b = record { number = b.number; slot = b.slot; held = b.held; locals = b.locals.items; total = b.total }
