-- The registry without words, the steps that are lawful there, and the picture: the model state that a core state shows.
use Rattle.std.specs.Prelude.{◌≡◌, ℕ, suc, ◌+◌, ◌-◌, ◌<◌, ◌≤◌, ◌==◌, List, [], length, Option, Some, None, true, if◌then◌else◌, ◌∷◌, ◌⊎◌, IsSome, IsTrue, sum_by}
use Rattle.protocol.specs.Types.{Driver, Entry, Change, Attach, Detach, Replace, Key, Settings, Slot, Vacant, Live, Retired}
use Rattle.registry_values.specs.Common.{are_fit, slot_at, has_number, slot_of}
use Rattle.protocol.specs.History.{after_change, IsAttached, EndsAt, IsLiveAt, IsLegal, MayHold, IsLawful}
use Rattle.protocol.specs.Events.{keeps_rightly, Outcome, names_lawfully, narrow_step, state_after, step}
use Rattle.protocol.specs.declared.event.Event.{Event}
use Rattle.protocol.specs.declared.event.Counted.{Counted}
use Rattle.protocol.specs.State.{State, begin_at, seen_at, search_at, found_at, hand_at, kept_at, passive_at, trying_at, opening}
use Rattle.protocol.specs.declared.event.Event.TheVariants.{Confirm}
use Rattle.protocol.specs.declared.state.Search.{Search}
use Rattle.protocol.specs.declared.state.Hand.{Hand}
use Rattle.protocol.specs.declared.state.Hand.TheVariants.{Trying}
use Rattle.protocol.specs.declared.state.Due.{Due}
use Rattle.protocol.specs.declared.state.Due.TheVariants.{Rest, Snapshots, Adding, Subtracting}
use Rattle.protocol.specs.Invariant.{standing_of, in_hand}

-- The registry without words: a history, sections, holders, lookups and occupants, the steps that are lawful, and their runs.

-- f with x at i
abbrev pub put : {X : Type 0} → (ℕ → X) → ℕ → X → ℕ → X
put f i x = λ j. if j == i then x else f j

-- a lookup under way: what it seeks, and the length of the CPU's pass as it began
pub record Lookup : Type 0 where
  pub key : Key
  pub start : ℕ

pub record Model : Type 0 where
  pub history : List Change
  -- of each CPU: the begin of its open section, the length of its pass, its lookup, its last found entry
  pub sections : ℕ → Option ℕ
  pub passes : ℕ → ℕ
  pub lookups : ℕ → Option Lookup
  pub found : ℕ → Option Entry
  -- passive references, how many of each CPU to each number (psref(9)); local references, how many to each number (localcount(9))
  pub passive : ℕ → ℕ → ℕ
  pub locals : ℕ → ℕ
  -- for each slot the number of its occupant, and that of the driver that it keeps a reference to
  pub occupants : ℕ → Option ℕ
  pub keeps : ℕ → Option ℕ

-- nothing has happened
abbrev pub empty_model : Model
empty_model = record {
  history = [];
  sections = λ c. None;
  passes = λ c. 0;
  lookups = λ c. None;
  found = λ c. None;
  passive = λ c n. 0;
  locals = λ n. 0;
  occupants = λ t. None;
  keeps = λ t. None;
}

-- the holders of n: there are none
pub record IsUnheld (m : Model) (n : ℕ) : Type 0 where
  pub sections : (c b : ℕ) (e : Entry) → m.sections c ≡ Some b → MayHold m.history b e → e.number ≡ n → ⊥
  pub passive : (c : ℕ) → m.passive c n ≡ 0
  pub locals : m.locals n ≡ 0
  pub keeps : (t : ℕ) → m.keeps t ≡ Some n → ⊥

-- a driver that is in some slot
pub record IsDriverHere (m : Model) (d : ℕ) : Type 0 where
  pub entry : Entry
  pub attached : IsAttached m.history entry
  pub numbered : entry.number ≡ d
  pub driver : entry.rec.kind ≡ Driver
  pub slot : ℕ
  pub occupant : m.occupants slot ≡ Some d

abbrev pub with_passive : Model → ℕ → ℕ → ℕ → Model
with_passive m c n k = record m { passive = put m.passive c (put (m.passive c) n k) }

abbrev pub with_locals : Model → ℕ → ℕ → Model
with_locals m n k = record m { locals = put m.locals n k }

-- no CPU takes any number
abbrev pub TakesNone : ℕ → ℕ → Type 0
TakesNone = λ c n. ⊥

-- One step of the registry. Without a section the CPU c may take a reference to n only where `MayTake c n` is so.
pub data IsModelStep (MayTake : ℕ → ℕ → Type 0) (m : Model) : Model → Type 0 where
  -- an outermost enter: the pass becomes the history
  Enters : (c : ℕ) → m.sections c ≡ None
      → IsModelStep MayTake m (record m { sections = put m.sections c (Some (length m.history)); passes = put m.passes c (length m.history) })
  -- an outermost exit: the last found entry is cleared
  Exits : (c b : ℕ) → m.sections c ≡ Some b → m.lookups c ≡ None
      → IsModelStep MayTake m (record m { sections = put m.sections c None; found = put m.found c None })
  -- a pass grows to a longer prefix of the history
  Sees : (c n : ℕ) → m.passes c ≤ n → n ≤ length m.history
      → IsModelStep MayTake m (record m { passes = put m.passes c n })
  -- a lookup starts at the length of the pass
  Seeks : (c b : ℕ) (key : Key) → m.sections c ≡ Some b → m.lookups c ≡ None
      → IsModelStep MayTake m (record m { lookups = put m.lookups c (Some (record { key = key; start = m.passes c })) })
  -- found or missed: the answer is lawful, and becomes the last found entry
  Answers : (c : ℕ) (q : Lookup) (answer : Option Entry) → m.lookups c ≡ Some q → IsLawful m.history q.start (m.passes c) q.key answer
      → IsModelStep MayTake m (record m { lookups = put m.lookups c None; found = put m.found c answer })
  -- an attach into a slot without an occupant, an interface's into one that keeps a reference and a driver's into one that keeps none
  Attaches : (e : Entry) → m.occupants e.slot ≡ None → IsLegal (after_change m.history (Attach e)) → e.number ≡ suc (length m.history) → keeps_rightly (m.keeps e.slot) e.rec.kind ≡ true
      → IsModelStep MayTake m (record m { history = after_change m.history (Attach e); occupants = put m.occupants e.slot (Some e.number) })
  Detaches : (n : ℕ) → IsLegal (after_change m.history (Detach n))
      → IsModelStep MayTake m (record m { history = after_change m.history (Detach n) })
  -- an attach instead of the entry n, which it ends by the same change
  Replaces : (n r : ℕ) (e : Entry) → m.occupants e.slot ≡ None → IsLegal (after_change m.history (Replace n r e)) → e.number ≡ suc (length m.history) → keeps_rightly (m.keeps e.slot) e.rec.kind ≡ true
      → IsModelStep MayTake m (record m { history = after_change m.history (Replace n r e); occupants = put m.occupants e.slot (Some e.number) })
  -- a slot without an occupant, and keeping nothing, takes over one local reference to a driver
  Keeps : (t d : ℕ) → m.occupants t ≡ None → m.keeps t ≡ None → IsDriverHere m d → 0 < m.locals d
      → IsModelStep MayTake m (record (with_locals m d (m.locals d - 1)) { keeps = put m.keeps t (Some d) })
  -- a passive reference to the last found entry; a copy of one that the CPU holds; its release
  Acquires : (c : ℕ) (e : Entry) → m.found c ≡ Some e
      → IsModelStep MayTake m (with_passive m c e.number (m.passive c e.number + 1))
  Copies : (c n : ℕ) → 0 < m.passive c n
      → IsModelStep MayTake m (with_passive m c n (m.passive c n + 1))
  Releases : (c n : ℕ) → 0 < m.passive c n
      → IsModelStep MayTake m (with_passive m c n (m.passive c n - 1))
  -- a passive reference without a section, to a live entry whose attach is in the CPU's pass
  Takes : (c t : ℕ) (e : Entry) → IsLiveAt m.history (length m.history) e → m.occupants t ≡ Some e.number → e.number ≤ m.passes c → MayTake c e.number
      → IsModelStep MayTake m (with_passive m c e.number (m.passive c e.number + 1))
  -- a local reference to the last found entry; its release, by anyone
  Counts : (c : ℕ) (e : Entry) → m.found c ≡ Some e
      → IsModelStep MayTake m (with_locals m e.number (m.locals e.number + 1))
  Uncounts : (n : ℕ) → 0 < m.locals n
      → IsModelStep MayTake m (with_locals m n (m.locals n - 1))
  -- the occupant is detached and has no holder at all
  Vacates : (t n p : ℕ) → m.occupants t ≡ Some n → EndsAt m.history n p → IsUnheld m n → m.keeps t ≡ None
      → IsModelStep MayTake m (record m { occupants = put m.occupants t None })
  -- the same of an interface, whose slot's reference becomes an ordinary local reference again
  Gives_up : (t n p d : ℕ) → m.occupants t ≡ Some n → EndsAt m.history n p → IsUnheld m n → m.keeps t ≡ Some d
      → IsModelStep MayTake m (record (with_locals m d (m.locals d + 1)) { occupants = put m.occupants t None; keeps = put m.keeps t None })

-- any number of steps, none among them
pub data IsModelRun (MayTake : ℕ → ℕ → Type 0) (m : Model) : Model → Type 0 where
  Stays : IsModelRun MayTake m m
  Goes_on : (a b : Model) → IsModelRun MayTake m a → IsModelStep MayTake a b → IsModelRun MayTake m b

-- What a list of events does: the state, and how many events were made.

pub record Run : Type 0 where
  pub state : State
  pub counted : Counted

-- one event more, made or left out
abbrev pub run_with_event : Run → Option Outcome → Run
run_with_event r None = record { state = r.state; counted = record { taken = r.counted.taken; refused = r.counted.refused + 1; last = r.counted.last } }
run_with_event r (Some o) = record { state = o.state; counted = record { taken = r.counted.taken + 1; refused = r.counted.refused; last = Some o.reply } }

abbrev pub run_of_events : Run → List Event → Run
run_of_events r [] = r
run_of_events r (e ∷ es) = run_of_events (run_with_event r (step r.state e)) es

-- the same in the pure machine, which refuses a Publish of a name that isn't lawful
abbrev pub narrow_run_of_events : Run → List Event → Run
narrow_run_of_events r [] = r
narrow_run_of_events r (e ∷ es) = narrow_run_of_events (run_with_event r (narrow_step r.state e)) es

-- those events of a list, from s on, that aren't a Publish of a name that isn't lawful
abbrev pub with_lawful_names : State → List Event → List Event
with_lawful_names s [] = []
with_lawful_names s (e ∷ es) = if names_lawfully s e then e ∷ with_lawful_names (state_after s (step s e)) es else with_lawful_names s es

abbrev pub empty_run : State → Run
empty_run s = record { state = s; counted = record { taken = 0; refused = 0; last = None } }

-- The picture of a core state: the model state that it shows.

abbrev pub lookup_of : Option Search → Option Lookup
lookup_of None = None
lookup_of (Some q) = Some (record { key = q.key; start = q.start })

abbrev pub number_in : Slot → Option ℕ
number_in Vacant = None
number_in (Live e) = Some e.number
number_in (Retired e) = Some e.number

-- the passive references of c to the entry in that slot: what its word counts, less what it is trying
abbrev pub passive_in : List (List ℕ) → List Hand → ℕ → Option ℕ → ℕ
passive_in passive hands c None = 0
passive_in passive hands c (Some t) = passive_at passive c t - trying_at hands c t

-- a reference that the keeper joined and hasn't subtracted yet
abbrev pub subtractions_due : List Slot → ℕ → Due → ℕ
subtractions_due slots n Rest = 0
subtractions_due slots n (Snapshots t c) = 0
subtractions_due slots n (Adding t old) = 0
subtractions_due slots n (Subtracting t) = if has_number n (slot_at slots t) then 1 else 0

-- the local references to n that no slot keeps: live, in a hand, or waiting for the keeper
abbrev pub locals_of : State → ℕ → ℕ
locals_of s n = sum_by (standing_of n) s.locals + sum_by (in_hand n) s.hands + subtractions_due s.slots n s.due

abbrev pub picture : State → Model
picture s = record {
  history = s.history;
  sections = λ c. begin_at s c;
  passes = λ c. seen_at s c;
  lookups = λ c. lookup_of (search_at s c);
  found = λ c. found_at s c;
  passive = λ c n. passive_in s.passive s.hands c (slot_of s.slots n);
  locals = λ n. locals_of s n;
  occupants = λ t. number_in (slot_at s.slots t);
  keeps = λ t. kept_at s.keeps t;
}

-- the event is an allowed Confirm of the CPU c, which is trying n
abbrev pub Confirms : State → Event → ℕ → ℕ → Type 0
Confirms s (Confirm d) = λ c n. (c ≡ d) × ((t : ℕ) × (hand_at s d ≡ Trying t n)) × IsSome (step s (Confirm d))
Confirms s _ = TakesNone

-- one of the events is, in the list that goes on from s
abbrev pub HasConfirm : State → List Event → ℕ → ℕ → Type 0
HasConfirm s [] c n = ⊥
HasConfirm s (event ∷ events) c n = Confirms s event c n ⊎ HasConfirm (state_after s (step s event)) events c n

-- For fit settings and every list of events, the picture is reached by a run of the model. In that run a CPU takes a reference without a section only to a number that it was trying at an allowed Confirm
-- of the list.
abbrev pub EveryRunIsModelRun : Type 0
EveryRunIsModelRun = (z : Settings) (events : List Event) → IsTrue (are_fit z) → IsModelRun (HasConfirm (opening z) events) empty_model (picture (run_of_events (empty_run (opening z)) events).state)
