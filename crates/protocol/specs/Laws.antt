-- The laws of the core, over every list of events.
use Rattle.std.specs.List.{AllByRecursion}
use Rattle.std.specs.Prelude.{◌≡◌, ℕ, suc, ◌+◌, ◌*◌, ◌%◌, ◌<◌, ◌≤◌, ◌⊎◌, IsTrue, IsSome, List, [], ◌∷◌, ◌++◌, length, sum_by, Option, Some, None, true, slice_index_or}
use Rattle.protocol.specs.Types.{Iface, Driver, Entry, Change, Attach, Detach, Replace, Settings, Key, Live}
use Rattle.protocol.specs.declared.event.Event.{Event}
use Rattle.protocol.specs.declared.event.Event.TheVariants.{Enter, Exit, Hear, Seek, LoadLink, LoadRecord, StoreSlot, StoreNext, Publish, Republish, Keep, KeptSub, Vacate, Recall, RecallHead, Refind, Confirm, Try}
use Rattle.protocol.specs.declared.event.RecordOf.TheVariants.{Search as OfSearch}
use Rattle.protocol.specs.declared.event.Reply.{Reply}
use Rattle.protocol.specs.declared.event.Reply.TheVariants.{Done, Word, Found, Missed, Ref, Collected}
use Rattle.protocol.specs.declared.state.Hand.TheVariants.{Trying}
use Rattle.protocol.specs.declared.state.Search.{Search}
use Rattle.registry_values.specs.Common.{are_fit, bias, is_lawful, key_of, slot_at}
use Rattle.protocol.specs.History.{IsAttached, EndsAt, IsLiveAt, IsLawful, IsNewestAt, after_change, change_at, rank_at}
use Rattle.protocol.specs.State.{State, opening, section_at, begin_at, seen_at, search_at, found_at, hand_at, count_at, total_at, live_at, kept_at, trying_at, at_rest}
use Rattle.protocol.specs.Events.{Outcome, narrow_step, step, state_after}
use Rattle.protocol.specs.Invariant.{Holds, IsIn, IsCounting, kept_of, held_at, one_if_used, itself}
use Rattle.protocol.specs.Model.{Run, narrow_run_of_events, run_of_events, empty_run, with_lawful_names, IsUnheld, IsModelRun, HasConfirm, number_in, picture}

-- the state after a list of events; those that aren't allowed are left out
abbrev pub after : State → List Event → State
after s events = (run_of_events (empty_run s) events).state

-- the state after one event more, allowed or not
abbrev pub after_event : State → Event → State
after_event s event = state_after s (step s event)

abbrev pub IsAllowed : State → Event → Type 0
IsAllowed s event = IsSome (step s event)

-- so it is in every state that events reach from the opening of fit settings
abbrev pub Always : (State → Type 0) → Type 0
Always P = (z : Settings) (events : List Event) → IsTrue (are_fit z) → P (after (opening z) events)

-- every list of events, allowed or not, keeps the core invariant
abbrev pub EveryRunKeeps : Type 0
EveryRunKeeps = Always Holds

-- the event is a Try
abbrev pub IsTry : Event → Type 0
IsTry (Try c t n) = Unit {0}
IsTry _ = ⊥

-- one of the events is
abbrev pub HasTry : List Event → Type 0
HasTry [] = ⊥
HasTry (event ∷ events) = IsTry event ⊎ HasTry events

-- where no event of the list is a Try, no CPU is trying: each passive word counts references alone
abbrev pub UntriedRuns : Type 0
UntriedRuns = (z : Settings) (events : List Event) → (HasTry events → ⊥) → (c t : ℕ) → trying_at (after (opening z) events).hands c t ≡ 0

-- Safe reuse

-- the number of the slot's occupant, live or retired
abbrev pub occupant_of : State → ℕ → Option ℕ
occupant_of s t = number_in (slot_at s.slots t)

-- the slot that an event destroys
abbrev pub destroyed_slot : Event → Option ℕ
destroyed_slot (Vacate t) = Some t
destroyed_slot (KeptSub t) = Some t
destroyed_slot _ = None

-- the slot that an event gives again, or makes ready for that
abbrev pub given_slot : Event → Option ℕ
given_slot (StoreSlot t k v) = Some t
given_slot (StoreNext t v) = Some t
given_slot (Keep t id) = Some t
given_slot (Publish t) = Some t
given_slot (Republish t u) = Some t
given_slot _ = None

-- the event publishes the entry of the slot t, at the head or in another's place
abbrev pub IsPublishing : ℕ → Event → Type 0
IsPublishing t event = (event ≡ Publish t) ⊎ ((u : ℕ) × (event ≡ Republish t u))

pub record ReusesSafely (s : State) : Type 0 where
  -- an occupant goes only by Vacate or KeptSub of its slot, when it was detached and nothing holds it
  pub goes : (event : Event) (t n : ℕ) → occupant_of s t ≡ Some n → (occupant_of (after_event s event) t ≡ Some n → ⊥)
      → (destroyed_slot event ≡ Some t) × ((p : ℕ) × EndsAt s.history n p) × IsUnheld (picture s) n
  -- one comes only by Publish or by Republish, into a slot without one, and its number is new
  pub comes : (event : Event) (t n : ℕ) → (occupant_of s t ≡ Some n → ⊥) → occupant_of (after_event s event) t ≡ Some n
      → IsPublishing t event × (occupant_of s t ≡ None) × (n ≡ suc (length s.history))
  -- only a slot without an occupant is reused
  pub given : (event : Event) (t : ℕ) → given_slot event ≡ Some t → IsAllowed s event → occupant_of s t ≡ None
  -- a number of the history that doesn't have a slot never has it again
  pub never : (later : List Event) (t n : ℕ) → n ≤ length s.history → (occupant_of s t ≡ Some n → ⊥) → occupant_of (after s later) t ≡ Some n → ⊥

-- a slot's occupant goes only without holders, and comes only into a slot without one
abbrev pub SafeReuse : Type 0
SafeReuse = Always ReusesSafely

pub record OutliveInterfaces (s : State) : Type 0 where
  -- a live or retired interface keeps a reference
  pub keeps : (t : ℕ) (e : Entry) → IsIn e (slot_at s.slots t) → e.rec.kind ≡ Iface → (d : ℕ) × (kept_at s.keeps t ≡ Some d)
  -- what a slot keeps is a driver that has its slot
  pub stands : (t d : ℕ) → kept_at s.keeps t ≡ Some d → (u : ℕ) × (e : Entry) × IsIn e (slot_at s.slots u) × (e.number ≡ d) × (e.rec.kind ≡ Driver)
  -- and no event takes that slot from it
  pub stays : (event : Event) (t u d : ℕ) → kept_at s.keeps t ≡ Some d → occupant_of s u ≡ Some d → occupant_of (after_event s event) u ≡ Some d
  -- an interface keeps the same driver as long as it has its slot
  pub same : (event : Event) (t n : ℕ) → occupant_of s t ≡ Some n → occupant_of (after_event s event) t ≡ Some n → kept_at (after_event s event).keeps t ≡ kept_at s.keeps t
  -- so while an interface has its slot t, its driver has its slot u
  pub throughout : (later : List Event) (t u n d : ℕ) → occupant_of s t ≡ Some n → kept_at s.keeps t ≡ Some d → occupant_of s u ≡ Some d → occupant_of (after s later) t ≡ Some n
      → (kept_at (after s later).keeps t ≡ Some d) × (occupant_of (after s later) u ≡ Some d)

-- drivers outlive their interfaces
abbrev pub DriversOutlive : Type 0
DriversOutlive = Always OutliveInterfaces

-- Lawful answers

-- the result of a lookup, if a reply is one
abbrev pub answer_of : Reply → Option (Option Entry)
answer_of Done = None
answer_of (Word w) = None
answer_of (Found e) = Some (Some e)
answer_of Missed = Some None
answer_of (Ref id) = None
answer_of Collected = None

-- the event is a load by the search of c
abbrev pub IsLoadOf : ℕ → Event → Type 0
IsLoadOf c event = (event ≡ LoadLink c) ⊎ (event ≡ LoadRecord (OfSearch c))

-- the answer ends a search of some CPU, and is the registry's at some point from the search's start to the end of the CPU's new pass
pub record IsAnswered (s : State) (event : Event) (o : Outcome) (answer : Option Entry) : Type 0 where
  pub cpu : ℕ
  pub search : Search
  pub loads : IsLoadOf cpu event
  pub under_way : search_at s cpu ≡ Some search
  pub lawful : IsLawful o.state.history search.start (seen_at o.state cpu) search.key answer

-- a search of c was under way before the event with this start and key, or began at it with the length of the pass as its start
abbrev pub HasBegun : State → Event → ℕ → Search → Type 0
HasBegun s event c q = ((old : Search) × (search_at s c ≡ Some old) × (old.start ≡ q.start) × (old.key ≡ q.key))
    ⊎ ((event ≡ Seek c q.key.kind q.key.name) × (q.start ≡ seen_at s c))

pub record AnswersLawfully (s : State) : Type 0 where
  -- each Found and each Missed, of any event, is a lawful answer
  pub answers : (event : Event) (o : Outcome) (answer : Option Entry) → step s event ≡ Some o → answer_of o.reply ≡ Some answer → IsAnswered s event o answer
  -- a search has from its Seek on its start, the length of the pass, and its key
  pub begun : (event : Event) (c : ℕ) (q : Search) → search_at (after_event s event) c ≡ Some q → HasBegun s event c q
  -- each pass is a prefix of the one history, passes only grow, and so does the history
  pub prefix : (c : ℕ) → seen_at s c ≤ length s.history
  pub passes : (event : Event) (c : ℕ) → seen_at s c ≤ seen_at (after_event s event) c
  pub history : (event : Event) → (more : List Change) × ((after_event s event).history ≡ s.history ++ more)

-- the result of each lookup is lawful
abbrev pub LawfulAnswers : Type 0
LawfulAnswers = Always AnswersLawfully

-- Fresh lookups (pserialize(9)): what a search answers, by the history as its Seek was made, however old the pass of its CPU was

abbrev pub seek_for : ℕ → Key → Event
seek_for c key = Seek c key.kind key.name

-- the event doesn't begin a search of the CPU c
abbrev pub IsNoSeek : ℕ → Event → Type 0
IsNoSeek c e = (key : Key) → e ≡ seek_for c key → ⊥

-- by none of these events the CPU c began a search
abbrev pub SeeksNone : ℕ → List Event → Type 0
SeeksNone c events = AllByRecursion (IsNoSeek c) events

-- no detach after the first `from` changes of h, up to `to`, is of an entry with this key; an entry that is replaced isn't detached
abbrev pub IsKept : List Change → ℕ → ℕ → Key → Type 0
IsKept h from to key = (p : ℕ) (e : Entry) → from < p → p ≤ to → change_at h p ≡ Some (Detach e.number) → IsAttached h e → key_of e ≡ key → ⊥

-- The history was `old` as the search began, is `new` now, and the CPU has seen `seen` of it.
pub record IsFreshAnswer (old new : List Change) (seen : ℕ) (key : Key) (answer : Option Entry) : Type 0 where
  -- the answer is the registry's at some point from the begin of the search to the end of the CPU's pass
  pub lawful : IsLawful new (length old) seen key answer
  -- an entry with the key that was live as the search began, and isn't detached yet, is the answer
  pub met : (e : Entry) → IsLiveAt old (length old) e → key_of e ≡ key → ((p : ℕ) → EndsAt new e.number p → ⊥) → answer ≡ Some e
  -- where an entry had the key as the search began, and none with it was detached since, one is found
  pub kept : (e : Entry) → IsLiveAt old (length old) e → key_of e ≡ key → IsKept new (length old) seen key → answer ≡ None → ⊥
  -- one that was detached before the search began isn't
  pub left : (e : Entry) (p : ℕ) → EndsAt old e.number p → answer ≡ Some e → ⊥

-- A search for the key was begun in s by a Seek of c, and c has begun no other since: what a load of it replies is fresh.
abbrev pub AnswersFreshly : State → Type 0
AnswersFreshly s = (c : ℕ) (key : Key) (since : List Event) (event : Event) (o : Outcome) (answer : Option Entry) → IsAllowed s (seek_for c key) → SeeksNone c since → IsLoadOf c event
    → step (after (after_event s (seek_for c key)) since) event ≡ Some o → answer_of o.reply ≡ Some answer → IsFreshAnswer s.history o.state.history (seen_at o.state c) key answer

-- a CPU that has just entered a section, heard a note, or recalled an entry or the head, has seen the whole history
pub record SeesAll (s : State) : Type 0 where
  pub entered : (c : ℕ) → IsAllowed s (Enter c) → seen_at (after_event s (Enter c)) c ≡ length s.history
  pub heard : (c : ℕ) → IsAllowed s (Hear (Some c)) → seen_at (after_event s (Hear (Some c))) c ≡ length s.history
  pub recalled : (c t : ℕ) → IsAllowed s (Recall c t) → seen_at (after_event s (Recall c t)) c ≡ length s.history
  pub headed : (c : ℕ) → IsAllowed s (RecallHead c) → seen_at (after_event s (RecallHead c)) c ≡ length s.history
  pub refound : (c t n : ℕ) → IsAllowed s (Refind c t n) → seen_at (after_event s (Refind c t n)) c ≡ length s.history
  pub confirmed : (c : ℕ) → IsAllowed s (Confirm c) → seen_at (after_event s (Confirm c)) c ≡ length s.history

-- what a CPU recalls, finds again, or confirms, is live at that very point of the history; what it confirms it had seen before
pub record RecallsLive (s : State) : Type 0 where
  -- the word that is loaded is 0, or the number of the entry, of all that were ever attached, that is live in the slot
  pub recalled : (c t : ℕ) (e : Entry) → IsAllowed s (Recall c t) → IsAttached s.history e → e.number ≡ live_at s.lives t → IsLiveAt s.history (length s.history) e × (e.slot ≡ t)
  pub confirmed : (c t : ℕ) (e : Entry) → hand_at s c ≡ Trying t e.number → IsAllowed s (Confirm c) → IsAttached s.history e
      → IsLiveAt s.history (length s.history) e × (e.slot ≡ t) × (e.number ≤ seen_at s c)
  -- and what is found again is the last found entry
  pub refound : (c t : ℕ) (e : Entry) → IsAllowed s (Refind c t e.number) → IsAttached s.history e
      → IsLiveAt s.history (length s.history) e × (e.slot ≡ t) × (found_at (after_event s (Refind c t e.number)) c ≡ Some e)

-- the head that a CPU recalls leads to the newest live entry, at that very point of the history
abbrev pub RecallsNewest : State → Type 0
RecallsNewest s = (c w : ℕ) (n : State) → step s (RecallHead c) ≡ Some (record { state = n; reply = Word w }) → IsNewestAt s.history w

-- each answer of a lookup is fresh
abbrev pub FreshAnswers : Type 0
FreshAnswers = Always AnswersFreshly

-- and a pass is whole as a section begins, as a note is heard, and as an entry is recalled
abbrev pub WholePasses : Type 0
WholePasses = Always SeesAll

-- and what is recalled is live
abbrev pub LiveRecalls : Type 0
LiveRecalls = Always RecallsLive

-- and what the head tells is the newest
abbrev pub NewestRecalls : Type 0
NewestRecalls = Always RecallsNewest

-- Replacements (list_replace_rcu)

-- A replacement leaves no point of the history without an entry.
pub record ReplacesAtOnce (s : State) : Type 0 where
  -- by one change the live entry f of the slot u ends, and e, with its kind and name, is attached in the slot t
  pub made : (t u : ℕ) (o : Outcome) → step s (Republish t u) ≡ Some o → (e : Entry) × (f : Entry) × (slot_at s.slots u ≡ Live f) × (e.slot ≡ t) × (key_of e ≡ key_of f)
      × (o.state.history ≡ after_change s.history (Replace f.number (rank_at s.history f.number) e))
  -- where an entry has a key, one has it at each point from there on, up to a detach
  pub throughout : (key : Key) (from to k : ℕ) (e : Entry) → IsLiveAt s.history from e → key_of e ≡ key → IsKept s.history from to key → from ≤ k → k ≤ to
      → (f : Entry) × IsLiveAt s.history k f × (key_of f ≡ key)
  -- so no lookup over these points is a miss
  pub answered : (key : Key) (from to : ℕ) (e : Entry) → IsLiveAt s.history from e → key_of e ≡ key → IsKept s.history from to key → IsLawful s.history from to key None → ⊥

-- so it is in every state that events reach
abbrev pub ReplacedAtOnce : Type 0
ReplacedAtOnce = Always ReplacesAtOnce

-- the event is a Republish
abbrev pub IsRepublish : Event → Type 0
IsRepublish (Republish t u) = Unit {0}
IsRepublish _ = ⊥

-- one of the events is
abbrev pub HasRepublish : List Event → Type 0
HasRepublish [] = ⊥
HasRepublish (event ∷ events) = IsRepublish event ⊎ HasRepublish events

-- A history of attaches and detaches alone: ranks are numbers, what is attached was so by an Attach, and what has ended by a Detach.
pub record IsPlain (h : List Change) : Type 0 where
  pub none : (k n r : ℕ) (e : Entry) → change_at h k ≡ Some (Replace n r e) → ⊥
  pub rank : (n : ℕ) → rank_at h n ≡ n
  pub attached : (e : Entry) → IsAttached h e → change_at h e.number ≡ Some (Attach e)
  pub ends : (n p : ℕ) → EndsAt h n p → change_at h p ≡ Some (Detach n)

-- where no event of the list is a Republish, the history is such a one
abbrev pub PlainRuns : Type 0
PlainRuns = (z : Settings) (events : List Event) → (HasRepublish events → ⊥) → IsPlain (after (opening z) events).history

-- Balance

-- the sum of a slot's count words, and how many of them aren't collected; a collected one is 0
abbrev pub words_at : State → ℕ → ℕ
words_at s t = sum_by itself (slice_index_or s.counts t [])

abbrev pub uncollected_at : State → ℕ → ℕ
uncollected_at s t = sum_by one_if_used (slice_index_or s.counts t [])

-- the local references held to n: the model's, and those that slots keep
abbrev pub held_of : State → ℕ → ℕ
held_of s n = (picture s).locals n + sum_by (kept_of n) s.keeps

-- the words that aren't collected and the total, less a bias for each of them, are the local references held
abbrev pub IsBalanced : State → ℕ → ℕ → Type 0
IsBalanced s t n = words_at s t + total_at s.totals t ≡ held_of s n + bias * (uncollected_at s t + 1)

pub record BalancesAtRest (s : State) : Type 0 where
  pub balanced : (t n : ℕ) → occupant_of s t ≡ Some n → IsBalanced s t n
  -- a slot without an occupant has no balance
  pub vacant : (t : ℕ) → t < s.settings.slots → occupant_of s t ≡ None → total_at s.totals t ≡ bias
  -- a word is 0 where it was collected or its CPU isn't there, else it is the bias and the CPU's net count
  pub counted : (c t : ℕ) → c < s.settings.cpus → IsCounting s.slots s.marks c t → (count_at s.counts c t ≡ count_at s.nets c t) × (0 < count_at s.counts c t)
  pub emptied : (c t : ℕ) (e : Entry) → IsIn e (slot_at s.slots t) → (IsCounting s.slots s.marks c t → ⊥) → count_at s.counts c t ≡ 0
  pub beyond : (c t : ℕ) → s.settings.cpus ≤ c → count_at s.counts c t ≡ 0
  -- the references held as the invariant counts them are those of the model
  pub held : (t n : ℕ) → occupant_of s t ≡ Some n → held_at s.locals s.hands s.keeps s.due n t ≡ held_of s n

-- whenever the keeper is at rest the balance of each slot is its local references held
abbrev pub BalanceAtRest : Type 0
BalanceAtRest = Always (λ s. at_rest s.due ≡ true → BalancesAtRest s)

-- The grace law

-- among the events that go on from s is an allowed Exit of c
abbrev pub HasExit : State → ℕ → List Event → Type 0
HasExit s c [] = ⊥
HasExit s c (event ∷ events) = ((event ≡ Exit c) × IsAllowed s event) ⊎ HasExit (after_event s event) c events

-- the word is even, or another one than it was
abbrev pub HasMoved : ℕ → ℕ → Type 0
HasMoved old new = (new % 2 ≡ 0) ⊎ (new ≡ old → ⊥)

-- where a CPU's word is even or another one than it was, the section that was open isn't open any more: there was its exit
abbrev pub EndsByExit : State → Type 0
EndsByExit s = (c b : ℕ) (later : List Event) → begin_at s c ≡ Some b → HasMoved (section_at s c) (section_at (after s later) c) → HasExit s c later

abbrev pub GraceLaw : Type 0
GraceLaw = Always EndsByExit

-- The headline

pub record IsSafe (s : State) : Type 0 where
  -- no slot is destroyed while a read section that may have found an entry of it, a passive reference, a local reference or a kept one holds that entry
  pub destroyed : (event : Event) (e : Entry) → destroyed_slot event ≡ Some e.slot → IsAllowed s event → IsAttached s.history e → IsUnheld (picture s) e.number
  -- and none is reused
  pub given : (event : Event) (e : Entry) → given_slot event ≡ Some e.slot → IsAllowed s event → IsAttached s.history e → IsUnheld (picture s) e.number
  -- at rest each slot's balance is exactly its local references held
  pub balanced : at_rest s.due ≡ true → (t n : ℕ) → occupant_of s t ≡ Some n → IsBalanced s t n
  pub vacant : at_rest s.due ≡ true → (t : ℕ) → t < s.settings.slots → occupant_of s t ≡ None → total_at s.totals t ≡ bias
  -- each lookup's answer is the registry's at some point of its one history, not before its search's start
  pub answered : (event : Event) (o : Outcome) (answer : Option Entry) → step s event ≡ Some o → answer_of o.reply ≡ Some answer → IsAnswered s event o answer
  -- which is what the caller had seen at its Seek
  pub begun : (event : Event) (c : ℕ) (q : Search) → search_at (after_event s event) c ≡ Some q → HasBegun s event c q

-- Over every list of events: no slot is destroyed or given again while a read section that may have found it, a passive reference or a
-- local reference holds it. Whenever the keeper is at rest, each slot's balance is exactly its local references held. The result of each
-- lookup is the registry's at some point of its one history, not before what the caller had seen.
abbrev pub Headline : Type 0
Headline = Always IsSafe

-- The pure machine, which refuses a Publish of a name that isn't lawful

-- each of its events is one of `step`, with what that leaves and replies
abbrev pub NarrowEvents : Type 0
NarrowEvents = (s : State) (event : Event) (o : Outcome) → narrow_step s event ≡ Some o → step s event ≡ Some o

-- one run of the list of all events, and one of those that were kept of them: state and replies are the same, and the first run has refused the others as well
pub record AreAlike (narrow wide : Run) (all kept : List Event) : Type 0 where
  pub state : narrow.state ≡ wide.state
  pub taken : narrow.counted.taken ≡ wide.counted.taken
  pub last : narrow.counted.last ≡ wide.counted.last
  pub refused : narrow.counted.refused + length kept ≡ wide.counted.refused + length all

-- What a list of events does in the pure machine, from any state, `step` does by a list of its own: the one without each Publish of a name that isn't lawful. So each law over all lists holds of it.
abbrev pub NarrowRuns : Type 0
NarrowRuns = (s : State) (events : List Event) → AreAlike (narrow_run_of_events (empty_run s) events) (run_of_events (empty_run s) (with_lawful_names s events)) events (with_lawful_names s events)

-- each entry that was ever attached has a lawful name
abbrev pub AreNamedLawfully : List Change → Type 0
AreNamedLawfully h = (e : Entry) → IsAttached h e → IsTrue (is_lawful e.rec.name)

-- so it is in every state that the pure machine reaches
abbrev pub NarrowNames : Type 0
NarrowNames = (z : Settings) (events : List Event) → IsTrue (are_fit z) → AreNamedLawfully (narrow_run_of_events (empty_run (opening z)) events).state.history

-- The laws of one state

-- all laws of a state: of its next event, and of every list of events that goes on from it
pub record ObeysLaws (s : State) : Type 0 where
  pub safe : IsSafe s
  pub reuse : ReusesSafely s
  pub drivers : OutliveInterfaces s
  pub answers : AnswersLawfully s
  pub fresh : AnswersFreshly s
  pub whole : SeesAll s
  pub live : RecallsLive s
  pub newest : RecallsNewest s
  pub replaces : ReplacesAtOnce s
  pub balance : at_rest s.due ≡ true → BalancesAtRest s
  pub grace : EndsByExit s
  -- the invariant goes on, and so does the run of the model
  pub keeps : (later : List Event) → Holds (after s later)
  pub modelled : (later : List Event) → IsModelRun (HasConfirm s later) (picture s) (picture (after s later))

-- the invariant is enough for them, in any state that has it
abbrev pub InvariantSuffices : Type 0
InvariantSuffices = (s : State) → Holds s → ObeysLaws s
