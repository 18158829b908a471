-- A CPU: how its plain data agree with what its seat knows, its read sections, and notes of what it has seen.
use Rattle.std.specs.Prelude.{◌≡◌, ◌≢◌, ◌↔◌, ℕ, ◌+◌, ◌*◌, ◌<◌, ◌≤◌, List, length, replicate, slice_index_or, Option, Some, None, IsTrue, ◌==◌, ◌++◌, nat_lt, Bool, Result, IfErr}
use Rattle.std.specs.List.{Contains}
use Rattle.std.specs.Result.{result_err}
use Rattle.atomic_table.specs.Seated.{TableId}
use mathlib.Core.List.{IsPrefix}
use Rattle.passive_list.specs.Types.{Entry, Change, Driver, Settings, MOST_DEPTH, Row, CpuView, LogItem, Refusal, Enter, Exit, Done, Tell, Cpu, Teller}
use Rattle.registry_values.specs.Common.{are_fit, bias, slot_at, enter_answer, Answers}
use Rattle.protocol.specs.Common.{IsAttached, IsIn, greatest_limit}
use Rattle.cpu_words.specs.Common.{IsRowOf, Named, number_at, references_to, depth_of, SectionMayHold, IsShownCpu, IsIdle, did, HasEntered, HasExited, HasWholePass, heard_from, IsShownAfter, teller_of, with_note}
use Rattle.passive_list.specs.declared.place.Found.{Found}
use Rattle.passive_list.specs.declared.place.NumberedCount.{NumberedCount}
use Rattle.passive_list.specs.Memories.{Memory, Remembers, no_memory}

-- a CPU, to a contract: what its seat knows, the depth of its section, the sum of its calls' changes in the ledger, what it has heard of
-- the keeper's log, all that its seat did, and the entries that it remembers
pub record OnCpu : Type 0 where
  pub view : CpuView
  pub depth : ℕ
  pub made : ℕ
  pub memory : Memory
  pub known_log : List LogItem
  pub log : List LogItem

-- a CPU that names its own table: that table and its settings, and the CPU; it has no share of a ledger, so it says 0 of what it made
pub record OnPlainCpu : Type 0 where
  pub words : Named
  pub cpu : OnCpu

abbrev pub no_place : NumberedCount
no_place = record { number = 0; count = 0 }

abbrev pub place_at : List NumberedCount → ℕ → NumberedCount
place_at places t = slice_index_or places t no_place

-- the place has the number of an entry of the pass, which was attached in that slot
pub record IsPlaceOf (h : List Change) (t n : ℕ) : Type 0 where
  pub entry : Entry
  pub attached : IsAttached h entry
  pub slot : entry.slot ≡ t
  pub number : entry.number ≡ n

-- the places of a CPU's passive references, by slot: each reference is counted at its entry's slot
pub record PassiveAgree (x : CpuView) (places : List NumberedCount) : Type 0 where
  pub size : length places ≡ x.settings.slots
  pub counts : (t : ℕ) → (place_at places t).count ≡ references_to (place_at places t).number x.references
  pub placed : (t : ℕ) → (place_at places t).number ≢ 0 → IsPlaceOf x.pass t (place_at places t).number
  pub each : (e : Entry) → Contains x.references e → (e.slot < x.settings.slots) × IsAttached x.pass e × ((place_at places e.slot).number ≡ e.number) × (0 < e.number)

-- the places of its net counts: each is for the number that the CPU met last in that slot
pub record NetAgree (x : CpuView) (places : List NumberedCount) : Type 0 where
  pub size : length places ≡ x.settings.slots
  pub met : (t : ℕ) → (place_at places t).number ≡ number_at x.met t
  pub counts : (t : ℕ) → (place_at places t).number ≢ 0 → (place_at places t).count + number_at x.released (place_at places t).number ≡ bias + number_at x.acquired (place_at places t).number
  pub most : (t : ℕ) → (place_at places t).count ≤ bias + greatest_limit

-- the rows of a new CPU: nothing is held or remembered
pub record AreNewRows (slots : ℕ) (references nets : List NumberedCount) (kept : Memory) : Type 0 where
  pub references_are : references ≡ replicate slots no_place
  pub nets_are : nets ≡ replicate slots no_place
  pub kept_is : kept ≡ no_memory slots

-- a section is open while its depth isn't 0
pub record DepthAgrees (begin : Option ℕ) (depth : ℕ) : Type 0 where
  pub outside : (begin ≡ None) ↔ (depth ≡ 0)
  pub most : depth ≤ MOST_DEPTH

-- The word is even outside and odd inside; each section that this CPU has begun, an open one among them, is within the limit.
pub record SectionAgrees (a : Settings) (x : CpuView) (ended : ℕ) : Type 0 where
  pub word : x.section ≡ 2 * ended + depth_of x.begin
  pub limit : ended + depth_of x.begin ≤ a.section_limit

abbrev pub no_found : Found
no_found = record { number = 0; slot = 0; kind = Driver }

-- what is kept of an entry, or that there is none
abbrev pub IsKept : Found → Option Entry → Type 0
IsKept f None = f.number ≡ 0
IsKept f (Some e) = (f.number ≡ e.number) × (f.slot ≡ e.slot) × (f.kind ≡ e.rec.kind)

-- the last found entry is n
abbrev pub IsFoundLast : CpuView → ℕ → Type 0
IsFoundLast x n = (e : Entry) × (x.found ≡ Some e) × (e.number ≡ n)

-- some state shows the CPU, and there its open section may hold the last found entry, which has its slot
pub record HoldsFound (x : CpuView) : Type 0 where
  pub is_shown : IsShownCpu x
  pub held : (e : Entry) → x.found ≡ Some e → SectionMayHold is_shown.g.history e x
  pub slot : (e : Entry) → x.found ≡ Some e → IsIn e (slot_at is_shown.g.slots e.slot)

-- the fields of a CPU of D's table: its seat's table and view, its row, ended sections and depth, the last found entry, and its places; some state shows the view
pub record IsOurCpu (z : TableId) (a : Settings) (t : TableId) (x : CpuView) (r : Row) (ended deep : ℕ) (last : Found) (references nets : List NumberedCount) (kept : Memory) : Type 0 where
  pub table : t ≡ z
  pub settings : x.settings ≡ a
  pub fit : IsTrue (are_fit a)
  pub id : x.id ≡ r.cpu
  pub few : r.cpu < a.cpus
  pub row : IsRowOf a.slots r
  pub section : SectionAgrees a x ended
  pub idle : IsIdle x
  pub depth : DepthAgrees x.begin deep
  pub found : IsKept last x.found
  pub passive : PassiveAgree x references
  pub net : NetAgree x nets
  pub memory : Remembers x.settings.slots x.pass kept
  pub is_shown : IsShownCpu x

-- Read sections of a CPU, nested: what enter and exit answer and leave.

-- The outermost enter begins a section by one event; an inner one is counted, and nothing else. The CPU is inside then.
pub record HasEnteredOn (a b : OnCpu) : Type 0 where
  pub begun : a.depth ≡ 0 → HasEntered a.view b.view
  -- as it begins, some state shows the CPU whose whole history the pass is
  pub whole : a.depth ≡ 0 → HasWholePass b.view
  pub inner : a.depth ≢ 0 → b.view ≡ a.view
  pub inside : b.view.begin ≢ None
  pub depth : b.depth ≡ a.depth + 1
  pub made : b.made ≡ a.made
  pub memory : b.memory ≡ a.memory
  pub known_log : b.known_log ≡ a.known_log
  pub event : a.depth ≡ 0 → b.log ≡ a.log ++ did (Enter a.view.id) Done
  pub none : a.depth ≢ 0 → b.log ≡ a.log

-- the CPU has begun fewer sections than it may
abbrev pub may_begin : CpuView → Bool
may_begin x = nat_lt x.section (2 * x.settings.section_limit)

-- why an enter is refused: nothing where it isn't
abbrev pub why_not_entered : OnCpu → Option Refusal
why_not_entered a = result_err (enter_answer a.depth (a.depth == 0) (may_begin a.view))

-- what an enter answers; a refused one changes nothing
pub record AnswersEnter (a b : OnCpu) (r : Result (Unit {0}) Refusal) : Type 0 where
  pub answer : Answers (why_not_entered a) (λ _. HasEnteredOn a b) r
  pub refused : IfErr r (λ _. b ≡ a)

-- the outermost exit ends the section by one event; an inner one is counted, and nothing else
pub record HasExitedOn (a b : OnCpu) : Type 0 where
  pub ended : a.depth ≡ 1 → HasExited a.view b.view
  pub inner : a.depth ≢ 1 → b.view ≡ a.view
  pub depth : b.depth + 1 ≡ a.depth
  pub made : b.made ≡ a.made
  pub memory : b.memory ≡ a.memory
  pub known_log : b.known_log ≡ a.known_log
  pub event : a.depth ≡ 1 → b.log ≡ a.log ++ did (Exit a.view.id) Done
  pub none : a.depth ≢ 1 → b.log ≡ a.log

-- Notes: what one CPU has seen reaches another, or the keeper.

-- a note, to a contract: a prefix of the history, what its teller had heard that the keeper did, and which CPU told it, if it isn't the keeper's
pub record OnNote : Type 0 where
  pub pass : List Change
  pub known_log : List LogItem
  pub teller : Option Teller

-- a CPU as the teller of a note, that has made one event more by that
abbrev pub as_teller : OnCpu → Teller
as_teller a = teller_of a.view a.log

-- the pass is a longer prefix of the history, with what the note tells in it, and the known log goes on; nothing else changes but the pass noted beside the view, and the CPU's own log: how that goes
-- on each call says
pub record HasHeardOn (note : List Change) (a b : OnCpu) : Type 0 where
  pub told : IsPrefix note b.view.pass
  pub pass : IsPrefix a.view.pass b.view.pass
  pub known_log : IsPrefix a.known_log b.known_log
  pub is : b ≡ record a { view = record a.view { pass = b.view.pass; noted_pass = note }; known_log = b.known_log; log = b.log }

-- as the CPU heard the note, some state showed it, in which the keeper had done just what the CPU knows of it then
abbrev pub WasShown : List Change → OnCpu → OnCpu → Type 0
WasShown note a b = IsShownAfter b.known_log (Cpu (with_note a.view note))

-- The CPU's own log: to tell and to hear is an event each.

abbrev pub has_told : OnCpu → List LogItem
has_told a = did (Tell (Some a.view.id)) Done

-- a note of the teller's, or of the keeper's where that is none
abbrev pub has_heard : OnCpu → Option Teller → List LogItem
has_heard a h = heard_from (Some a.view.id) h

-- the CPU as it has told what it has seen
abbrev pub cpu_after_tell : OnCpu → OnCpu
cpu_after_tell a = record a { log = a.log ++ has_told a }

-- it heard one note, and told one
abbrev pub HeardAndTold : OnCpu → OnCpu → Type 0
HeardAndTold a b = (h : Option Teller) × (b.log ≡ a.log ++ has_heard a h ++ has_told a)
