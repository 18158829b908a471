-- Destroying a retired entry: a turn of the work on it, what it met, how many turns were made, and what the last one's answer makes of it.
use Rattle.std.specs.Prelude.{◌≡◌, ◌≢◌, ◌⊎◌, ℕ, zero, suc, ◌+◌, ◌<◌, ◌≤◌, ◌%◌, List, [], ◌∷◌, ◌++◌, Option, true, false, Some, None, Bool, Result, Ok, Err, IfOk, ◌*◌, length}
use mathlib.Core.List.{IsPrefix}
use mathlib.Core.Option.{some}
use lib.ListN.{get_elem?}
use Rattle.atomic_table.specs.Table.{State as Table}
use Rattle.cpu_words.specs.declared.view.Logged.{Logged}
use Rattle.cpu_words.specs.Freed.{HasGone}
use Rattle.name_registry.specs.Types.{Entry, Iface, Event, Look, PassiveLook, Word, Refusal, NotRetired, Settings, Stage, Grace, Passive, Local, Freed, Rest, Retired, LogItem, KeeperView, Keeper, KeptSlot, Inside, StillHeld, Teller}
use Rattle.registry_values.specs.Common.{bias, destroy_result_of, is_retired_as, retired_slot, slot_at, IsObstacle}
use Rattle.protocol.specs.Common.{MarksGrow, mark_at, total_at, kept_at}
use Rattle.cpu_words.specs.Common.{LoggedRuled, has_looked, has_looked_passive, HasLooked, IsFreedFrom, did, Makes, changes_in, heard_from, given_up, occupant, sum_collected, word_collected, words_collected, HasPassedOn, IsDetachedFrom, IsSnapped}
use Rattle.passive_list.specs.Common.{OnKeeper, HasVacated, IsDrainedOn, OnCpu, HasOwnLog, HasHeardOn, cpu_after_tell}
use Rattle.local_count.specs.Draining.{AreHeld, HasFreed}
use Rattle.name_registry.specs.Locking.{IsStageOf, keeper_after_hear, keeper_after_tell, tells_twice_and_hears}

-- A turn of the work on a retired entry: its result is what the keeper saw.

-- What the work asks, and what it leaves

-- the keeper is at rest, and the entry of the slot t is retired; only an interface's slot keeps a reference
pub record MayWork (z : Settings) (x : OnKeeper) (t : ℕ) : Type 0 where
  pub settings : x.view.settings ≡ z
  pub rest : x.view.due ≡ Rest
  pub slot : t < z.slots
  pub e : Entry
  pub retired : slot_at x.slots t ≡ Retired e
  pub known : slot_at x.view.slots t ≡ Retired e
  pub keeps : (d : ℕ) → kept_at x.view.keeps t ≡ Some d → e.rec.kind ≡ Iface

-- looks were made, and words were collected into the total of the slot t: its marks grow, the log goes on, and nothing else changes
pub record HasWorkedFor (a : OnKeeper) (t : ℕ) (b : OnKeeper) : Type 0 where
  pub only : b.view ≡ record a.view { marks = b.view.marks; totals = b.view.totals; looks = b.view.looks; last_look = b.view.last_look }
  pub marks : MarksGrow a.view.marks b.view.marks t
  pub totals : (u : ℕ) → u ≢ t → total_at b.view.totals u ≡ total_at a.view.totals u
  pub looks : a.view.looks ≤ b.view.looks
  pub slots : b.slots ≡ a.slots
  pub log : IsPrefix a.log b.log

-- looks alone were made
pub record HasLookedFor (a : OnKeeper) (t : ℕ) (b : OnKeeper) : Type 0 where
  pub worked : HasWorkedFor a t b
  pub totals : b.view.totals ≡ a.view.totals

-- The looks that were made for the slot t, all of them in the keeper's log

-- exactly one look more at the section word of c, which was w: its mark says what the word tells
pub record LooksFor (a : OnKeeper) (t c w : ℕ) (b : OnKeeper) : Type 0 where
  pub event : Makes (Look (Some t) c) (Word w) (Keeper a.view) (Keeper b.view)
  pub change : HasLooked a.view (Look (Some t) c) (Word w) t c w b.view
  pub slots : b.slots ≡ a.slots
  pub log : b.log ≡ a.log ++ did (Look (Some t) c) (Word w)

-- at a CPU that had passed none, else one
abbrev pub LooksUnless : Bool → OnKeeper → ℕ → ℕ → OnKeeper → Type 0
LooksUnless true a t c b = b ≡ a
LooksUnless false a t c b = (w : ℕ) × LooksFor a t c w b

-- so at the first n CPUs, CPU 0 first
abbrev pub LooksBelow : ℕ → OnKeeper → ℕ → OnKeeper → Type 0
LooksBelow zero a t b = b ≡ a
LooksBelow (suc n) a t b = (m : OnKeeper) × LooksBelow n a t m × LooksUnless (mark_at m.view.marks t n).passed m t n b

-- how many CPUs: up to the one that was told, or all
abbrev pub looked_at : ℕ → Option ℕ → ℕ
looked_at cpus None = cpus
looked_at cpus (Some c) = suc c

-- a look for the slot t
abbrev pub IsLook : ℕ → LogItem → Type 0
IsLook t d = (c : ℕ) × (w : ℕ) × (d ≡ has_looked t c w)

-- what is so of the marks of the first n CPUs for the slot t

abbrev pub PassedBelow : KeeperView → ℕ → ℕ → Type 0
PassedBelow k t n = (c : ℕ) → c < n → (mark_at k.marks t c).passed ≡ true

abbrev pub ClearBelow : KeeperView → ℕ → ℕ → Type 0
ClearBelow k t n = (c : ℕ) → c < n → (mark_at k.marks t c).clear ≡ true

abbrev pub CollectedBelow : KeeperView → ℕ → ℕ → Type 0
CollectedBelow k t n = (c : ℕ) → c < n → (mark_at k.marks t c).collected ≡ true

-- What the keeper saw

-- its last look, one that was made since, is this one
pub record HasLookedLast (a b : KeeperView) (e : Event) (w : ℕ) : Type 0 where
  pub more : a.looks < b.looks
  pub last : b.last_look ≡ Some (record { event = e; reply = Word w })

-- since the log `old` the last item is this one
abbrev pub EndsIn : List LogItem → LogItem → List LogItem → Type 0
EndsIn old d new = (between : List LogItem) × (new ≡ old ++ between ++ d ∷ [])

-- it saw the section word of c odd and as in the snapshot: the section that was open at the snapshot is still open
pub record SeesSection (a : OnKeeper) (t c : ℕ) (b : OnKeeper) : Type 0 where
  pub word : ℕ
  pub look : HasLookedLast a.view b.view (Look (Some t) c) word
  pub log : EndsIn a.log (has_looked t c word) b.log
  pub odd : word % 2 ≡ 1
  pub snapshot : (mark_at b.view.marks t c).snapshot ≡ Some word
  pub unpassed : (mark_at b.view.marks t c).passed ≡ false

-- it saw that the passive word of c isn't 0
pub record SeesPassive (a : OnKeeper) (t c : ℕ) (b : OnKeeper) : Type 0 where
  pub word : ℕ
  pub look : HasLookedLast a.view b.view (PassiveLook t c) word
  pub log : EndsIn a.log (has_looked_passive t c word) b.log
  pub some : word ≢ 0
  pub unclear : (mark_at b.view.marks t c).clear ≡ false

-- The stages, of the slot t

-- it saw that c's section from the snapshot is still open; all CPUs before c have passed
pub record MeetsGrace (a : OnKeeper) (t c : ℕ) (b : OnKeeper) : Type 0 where
  pub cpu : c < a.view.settings.cpus
  pub sees : SeesSection a t c b
  pub lesser : PassedBelow b.view t c
  pub leaves : HasLookedFor a t b

-- it saw that c's passive word isn't 0; all CPUs have passed, and those before c are clear
pub record MeetsPassive (a : OnKeeper) (t c : ℕ) (b : OnKeeper) : Type 0 where
  pub cpu : c < a.view.settings.cpus
  pub sees : SeesPassive a t c b
  pub passed : PassedBelow b.view t b.view.settings.cpus
  pub lesser : ClearBelow b.view t c
  pub leaves : HasLookedFor a t b

-- n local references are held, and all marks are set
pub record MeetsLocal (a : OnKeeper) (t n : ℕ) (b : OnKeeper) : Type 0 where
  pub some : n ≢ 0
  pub held : AreHeld b.view t n
  pub total : n + bias ≡ total_at b.view.totals t
  pub passed : PassedBelow b.view t b.view.settings.cpus
  pub clear : ClearBelow b.view t b.view.settings.cpus
  pub collected : CollectedBelow b.view t b.view.settings.cpus
  pub leaves : HasWorkedFor a t b

-- the slot's end: it is vacant, and where it kept a driver that was given up
abbrev pub HasEnded : OnKeeper → ℕ → OnKeeper → Type 0
HasEnded m t b = ((kept_at m.view.keeps t ≡ None) × HasVacated m t b) ⊎ HasFreed m t b

-- the end of the work, at a slot with all marks: so many local references are held and nothing changes, or the slot is drained and ends
abbrev pub Settles : OnKeeper → ℕ → Stage → OnKeeper → Type 0
Settles m t (Grace c) b = ⊥
Settles m t (Passive c) b = ⊥
Settles m t (Local n) b = (n ≢ 0) × AreHeld m.view t n × (n + bias ≡ total_at m.view.totals t) × (b ≡ m)
Settles m t (Freed u) b = (u ≡ t) × IsDrainedOn m t × HasEnded m t b

-- the slot was drained, and then came to its end
pub record MeetsNone (a : OnKeeper) (t : ℕ) (b : OnKeeper) : Type 0 where
  pub between : OnKeeper
  pub leaves : HasWorkedFor a t between
  pub drained : IsDrainedOn between t
  pub ended : HasEnded between t b

abbrev pub Meets : OnKeeper → ℕ → Stage → OnKeeper → Type 0
Meets a t (Grace c) b = MeetsGrace a t c b
Meets a t (Passive c) b = MeetsPassive a t c b
Meets a t (Local n) b = MeetsLocal a t n b
Meets a t (Freed u) b = (u ≡ t) × MeetsNone a t b

-- the row of a slot has the retired entry with this number
abbrev pub is_retired_row : ℕ → KeptSlot → Bool
is_retired_row n r = is_retired_as n r.state

-- What advance returns and leaves.
abbrev pub HasAdvanced : OnKeeper → ℕ → Result Stage Refusal → OnKeeper → Type 0
HasAdvanced a n (Ok stage) b = (t : ℕ) × (retired_slot a.slots n ≡ Some t) × Meets a t stage b
HasAdvanced a n (Err refusal) b = (refusal ≡ NotRetired) × (retired_slot a.slots n ≡ None) × (b ≡ a)

-- where a turn freed the slot, the entry n is gone from there by this log: by the law `running_headline` (`freed`) nothing holds it
abbrev pub IsGoneIfFreed : ℕ → Result Stage Refusal → List LogItem → Type 0
IsGoneIfFreed n answer log = IfOk (destroy_result_of answer) (λ slot. IsFreedFrom slot n log)

-- What a turn of the work on a retired entry met, by the keeper's log. A CPU that has heard the log knows it, also after later turns.

-- by the log the slot t has the entry n, which was detached
abbrev pub IsRetiredIn : ℕ → ℕ → List LogItem → Type 0
IsRetiredIn t n log = (occupant t log ≡ Some n) × IsDetachedFrom t n log

-- by the log no slot has it so
abbrev pub IsNotRetired : ℕ → List LogItem → Type 0
IsNotRetired n log = (t : ℕ) → IsRetiredIn t n log → ⊥

-- The last thing that the keeper did, and in this turn, which began after `begin`, was to load the section word of c. The word was odd and
-- as at the snapshot: the section from then was still open. The CPUs before c have passed.
pub record MetSection (t c : ℕ) (begin log : List LogItem) : Type 0 where
  pub word : ℕ
  pub before : List LogItem
  pub since : IsPrefix begin before
  pub are : log ≡ before ++ has_looked t c word ∷ []
  pub odd : word % 2 ≡ 1
  pub snapped : IsSnapped t c word log
  pub lesser : (d : ℕ) → d < c → HasPassedOn t d log

-- The last thing that the keeper did, and in this turn, was to load the passive word of c for the slot, which wasn't 0: c has a passive reference to the entry, or tries to get one in the slot. All CPUs have passed.
pub record MetReference (cpus t c : ℕ) (begin log : List LogItem) : Type 0 where
  pub word : ℕ
  pub before : List LogItem
  pub since : IsPrefix begin before
  pub are : log ≡ before ++ has_looked_passive t c word ∷ []
  pub some : word ≢ 0
  pub passed : (d : ℕ) → d < cpus → HasPassedOn t d log

-- So many local references are left: the count words of all CPUs were collected, and it is what they come to, less the references that were given up under the interlock. All CPUs have passed.
pub record MetLocals (cpus t n k : ℕ) (log : List LogItem) : Type 0 where
  pub some : k ≢ 0
  pub collected : (d : ℕ) → d < cpus → (w : ℕ) × (word_collected t d log ≡ Some w)
  pub left : k + given_up n log + bias * words_collected t log ≡ sum_collected t log
  pub passed : (d : ℕ) → d < cpus → HasPassedOn t d log

-- the work on the entry n of the slot t came so far
abbrev pub HasMet : ℕ → ℕ → ℕ → Stage → List LogItem → List LogItem → Type 0
HasMet cpus t n (Grace c) begin log = MetSection t c begin log
HasMet cpus t n (Passive c) begin log = MetReference cpus t c begin log
HasMet cpus t n (Local k) begin log = MetLocals cpus t n k log
HasMet cpus t n (Freed u) begin log = (u ≡ t) × IsFreedFrom t n log

-- the answer, by the keeper's log as the turn began and as it ended
abbrev pub AnswersBy : ℕ → ℕ → Result Stage Refusal → List LogItem → List LogItem → Type 0
AnswersBy cpus n (Ok stage) begin log = (t : ℕ) × IsRetiredIn t n begin × HasMet cpus t n stage begin log
AnswersBy cpus n (Err refusal) begin log = (refusal ≡ NotRetired) × IsNotRetired n begin

-- Once it had done `begin` the keeper heard the CPU x, which told that note after the call. So by the law `running_headline` (`told`) what the keeper
-- did since is in the list of events past all that anyone knew at the call.
pub record HasHeardCaller (x : OnCpu) (begin log : List LogItem) : Type 0 where
  pub teller : Teller
  pub cpu : teller.cpu ≡ x.view.id
  pub later : length x.log < teller.events
  pub heard : IsPrefix (begin ++ heard_from None (Some teller)) log

-- A turn: as it began the keeper had heard all that the CPU x knew, and it heard that CPU once more; as it ends the CPU has heard all that the keeper did in it.
pub record IsTurn (z : Settings) (n : ℕ) (x : OnCpu) (answer : Result Stage Refusal) (y : OnCpu) : Type 0 where
  pub begin : List LogItem
  pub log : List LogItem
  pub known : IsPrefix x.known_log begin
  pub seen : length x.view.pass ≤ changes_in begin
  pub on : IsPrefix begin log
  pub heard : HasHeardCaller x begin log
  pub told : IsPrefix log y.known_log
  pub answers : AnswersBy z.cpus n answer begin log

-- what a destroy answers is what such a turn met; the caller knew at the call what the CPU x knows
abbrev pub IsDestroyAnswer : Settings → ℕ → OnCpu → Result ℕ Refusal → OnCpu → Type 0
IsDestroyAnswer z n x (Ok t) y = IsTurn z n x (Ok (Freed t)) y
IsDestroyAnswer z n x (Err (StillHeld stage)) y = IsTurn z n x (Ok stage) y
IsDestroyAnswer z n x (Err NotRetired) y = IsTurn z n x (Err NotRetired) y
IsDestroyAnswer z n x (Err Inside) y = y ≡ x
IsDestroyAnswer z n x (Err _) y = ⊥

-- In any table under the rule, now or later, in which some seat knows of the keeper's log all that the CPU y knows: the entry n of the slot t has no slot, and nothing holds it.
abbrev pub StaysGone : Settings → ℕ → ℕ → OnCpu → Type 0
StaysGone z t n y = (s : Table ℕ Logged) (i : ℕ) (l : Logged) → LoggedRuled z s → get_elem? s.views i ≡ some l → IsPrefix y.known_log l.known_log → HasGone z s t n

-- the seat has this much of the keeper's log: it has heard it, or is the keeper's own
abbrev pub HasAllOf : List LogItem → Logged → Type 0
HasAllOf log l = IsPrefix log l.known_log ⊎ ((k : KeeperView) × (l.view ≡ Keeper k) × IsPrefix log l.log)

-- The same where some seat has this much of the keeper's log.
abbrev pub StaysGoneBy : Settings → ℕ → ℕ → List LogItem → Type 0
StaysGoneBy z t n log = (s : Table ℕ Logged) (i : ℕ) (l : Logged) → LoggedRuled z s → get_elem? s.views i ≡ some l → HasAllOf log l → HasGone z s t n

-- Destroying a retired entry: how many turns of the work on it were made, and what the last one's answer makes of it.

-- a turn that met an obstacle; after any other answer there is nothing more to do
abbrev pub MeetsObstacle : Result Stage Refusal → Type 0
MeetsObstacle (Ok stage) = IsObstacle stage
MeetsObstacle (Err refusal) = ⊥

-- The turns: X is what stands between two holds of the interlock

module _ {X : Type 0} (turn : X → Result Stage Refusal → X → Type 0) where
  -- n turns were made, each on from what the one before left, and each met an obstacle
  abbrev pub TurnsMeeting : ℕ → X → X → Type 0
  TurnsMeeting zero x y = y ≡ x
  TurnsMeeting (suc n) x y = (m : X) × (met : Result Stage Refusal) × TurnsMeeting n x m × turn m met y × MeetsObstacle met

  -- one turn more was made, after n such: this is its answer
  abbrev pub LastMeeting : ℕ → X → Result Stage Refusal → X → Type 0
  LastMeeting n x met y = (m : X) × TurnsMeeting n x m × turn m met y

  -- as many turns as are allowed, or fewer where the last met no obstacle; the answer is made of the last one's
  pub record Destroys (turns : ℕ) (x : X) (answer : Result ℕ Refusal) (y : X) : Type 0 where
    pub earlier : ℕ
    pub few : earlier < turns
    pub met : Result Stage Refusal
    pub last : LastMeeting earlier x met y
    pub enough : (MeetsObstacle met → ⊥) ⊎ (suc earlier ≡ turns)
    pub told : answer ≡ destroy_result_of met

-- A turn with the caller's CPU x: the keeper a hears first what the CPU knows, makes the turn, and hears once more, so that its log has what it found. Then the CPU hears the history and all that the
-- keeper did.
pub record HasAdvancedFor (z : Settings) (a : OnKeeper) (x : OnCpu) (n : ℕ) (answer : Result Stage Refusal) (b : OnKeeper) (y : OnCpu) : Type 0 where
  pub known : IsPrefix x.known_log a.log
  pub seen : length x.view.pass ≤ changes_in a.log
  pub own : HasOwnLog z a
  pub end : OnKeeper
  pub made : HasAdvanced (keeper_after_hear a x) n answer end
  pub own_end : HasOwnLog z end
  pub is : b ≡ keeper_after_tell (keeper_after_hear end (cpu_after_tell x))
  pub hears : HasHeardOn end.view.history x y
  pub told : IsPrefix b.log y.known_log
  pub cpu_log : y.log ≡ x.log ++ tells_twice_and_hears x

-- Through the lock, whose value no contract can name: of some keeper, as the call found it and left it

-- one turn of the work on the entry n for a CPU, which knows then what the turn met, by the keeper's log; a stage speaks of a CPU or a slot that there is
abbrev pub SomeAdvancedFor : Settings → ℕ → OnCpu → Result Stage Refusal → OnCpu → Type 0
SomeAdvancedFor z n x answer y = ((a : OnKeeper) × (b : OnKeeper) × HasAdvancedFor z a x n answer b y) × IfOk answer (λ stage. IsStageOf z stage) × IsTurn z n x answer y

abbrev pub HasDestroyed : Settings → ℕ → ℕ → OnCpu → Result ℕ Refusal → OnCpu → Type 0
HasDestroyed z n turns x answer y = Destroys (SomeAdvancedFor z n) turns x answer y

-- outside a section it was made, and this is its answer
abbrev pub DestroysOutside : Settings → ℕ → ℕ → Bool → OnCpu → Result ℕ Refusal → OnCpu → Type 0
DestroysOutside z n turns true x result y = (result ≡ Err Inside) × (y ≡ x)
DestroysOutside z n turns false x result y = HasDestroyed z n turns x result y
