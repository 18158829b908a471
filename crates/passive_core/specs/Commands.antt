-- The state that a core shows, what commands begin with, and what those on sections and lookups answer and leave.
use Rattle.std.specs.Prelude.{◌≡◌, ℕ, Bool, true, not, ◌||◌, nat_lt, ◌+◌, ◌-◌, ◌*◌, ◌==◌, if◌then◌else◌, Result, is_ok, slice_set, Option, length}
use Rattle.passive_core.specs.Types.{Refusal, Entry, SearchPlace, AtHead, AtNext, AtNumber, AtKind, AtHigh, AtLow, AtValue, Search}
use Rattle.registry_values.specs.Answers as answers
use Rattle.protocol.specs.Common.{State, at_rest, is_idle, is_inside, is_outside, after_enter, after_exit, section_at, depth_at, Outcome, with_some, load_link, load_searched}
use Rattle.passive_core.specs.declared.machine.Core.TheInside.{Inside}

abbrev pub state_shown : Inside → State
state_shown a = record {
  settings = a.settings;
  section = a.section.items;
  head = a.head;
  next = a.next.items;
  rows = a.rows.items;
  passive = a.passive.items;
  counts = a.counts.items;
  totals = a.totals.items;
  lives = a.lives.items;
  history = a.history.items;
  seated = a.seated;
  begins = a.begins.items;
  depths = a.depths.items;
  seen = a.seen.items;
  searches = a.searches.items;
  found = a.found.items;
  hands = a.hands.items;
  nets = a.nets.items;
  slots = a.slots.items;
  marks = a.marks.items;
  keeps = a.keeps.items;
  due = a.due;
  locals = a.locals.items;
}

-- What commands begin with.

-- a command may be given to a CPU that is idle or not yet seated
abbrev pub may_act : State → ℕ → Bool
may_act s c = not (nat_lt c s.seated) || is_idle s c

-- every CPU has its seat
abbrev pub all_seated : State → State
all_seated s = record s { seated = s.settings.cpus }

-- nothing is half done: the keeper is at rest, and a command may be given to any CPU
pub record IsQuiet (s : State) : Type 0 where
  pub rest : at_rest s.due ≡ true
  pub ready : (c : ℕ) → may_act s c ≡ true

-- What the commands that begin and end sections answer, and what they leave.

-- the CPU has begun fewer outermost sections than it may
abbrev pub may_begin : State → ℕ → Bool
may_begin s c = nat_lt (section_at s c) (2 * s.settings.section_limit)

abbrev pub enter_answer : State → ℕ → Result Unit Refusal
enter_answer s c = answers.enter_answer (depth_at s c) (is_outside s c) (may_begin s c)

-- the section's depth is another; its word and its begin stay
abbrev pub with_depth : State → ℕ → ℕ → State
with_depth s c depth = record s { depths = slice_set s.depths c depth }

-- inside a section it gets deeper; outside all CPUs are seated and a section begins
abbrev pub with_section_entered : State → ℕ → State
with_section_entered s c = if is_inside s c then with_depth s c (depth_at s c + 1) else after_enter (all_seated s) c

-- a refusal changes nothing
abbrev pub after_enter_command : State → ℕ → State
after_enter_command s c = if is_ok (enter_answer s c) then with_section_entered s c else s

-- the outermost exit ends the section, once all CPUs are seated; an inner one makes it less deep
abbrev pub after_exit_command : State → ℕ → State
after_exit_command s c = if depth_at s c == 1 then after_exit (all_seated s) c else with_depth s c (depth_at s c - 1)

-- What a lookup leaves.

-- the whole history is seen, and the answer is the last found entry
abbrev pub after_find : State → ℕ → Option Entry → State
after_find s c answer = record s { seen = slice_set s.seen c (length s.history); found = slice_set s.found c answer }

-- the load that a search at this place is to make
abbrev pub load_at : State → ℕ → Search → SearchPlace → Option Outcome
load_at s c q AtHead = load_link s c q AtHead
load_at s c q (AtNext t) = load_link s c q (AtNext t)
load_at s c q (AtNumber t) = load_searched s c q (AtNumber t)
load_at s c q (AtKind t n) = load_searched s c q (AtKind t n)
load_at s c q (AtHigh t n k) = load_searched s c q (AtHigh t n k)
load_at s c q (AtLow t n k h) = load_searched s c q (AtLow t n k h)
load_at s c q (AtValue t n) = load_searched s c q (AtValue t n)

abbrev pub next_load : State → ℕ → Option Search → Option Outcome
next_load s c search = with_some search (λ q. load_at s c q q.place)
