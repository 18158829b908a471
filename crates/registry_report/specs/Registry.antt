-- The registry as a script sees it: a history, a model state, and beside it depths, counts, tallies and labels.
use Rattle.std.specs.Prelude.{ℕ, zero, suc, ◌-◌, ◌==◌, nat_lt, List, position, count_by, Option, Some, None, is_some, Bool, true, false, if◌then◌else◌}
use Rattle.registry_report.specs.Types.{Entry, Change, Attach, Detach, Replace, Key, CorePsref, Settings}
use Rattle.registry_values.specs.Common.{key_of, same_key, is_driver}
use Rattle.protocol.specs.Common.{is_number, Model, empty_model, brought_by}
use Rattle.protocol.specs.History.{change_at}

-- What a history says: the result of a lookup, the entry with a number, its end, how many entries are live.

-- an entry with the key that is attached, or takes another's place, is the answer from then on, and its detach takes it away
abbrev pub answer_after : Key → Option Entry → Option Change → Option Entry
answer_after key answer None = answer
answer_after key answer (Some (Attach e)) = if same_key (key_of e) key then Some e else answer
answer_after key answer (Some (Detach n)) = if is_number n answer then None else answer
answer_after key answer (Some (Replace n r e)) = if same_key (key_of e) key then Some e else answer

-- the entry with this key that is live after the first k changes
abbrev pub lookup : List Change → Key → ℕ → Option Entry
lookup h key zero = None
lookup h key (suc k) = answer_after key (lookup h key k) (change_at h (suc k))

-- the entry with this number
abbrev pub entry_of : List Change → ℕ → Option Entry
entry_of h n = brought_by (change_at h n)

abbrev pub is_driver_entry : Option Entry → Bool
is_driver_entry None = false
is_driver_entry (Some e) = is_driver e.rec.kind

abbrev pub value_in : Option Entry → ℕ
value_in None = 0
value_in (Some e) = e.rec.value

-- of the entry with this number: whether it is a driver, and its value
abbrev pub is_driver_number : List Change → ℕ → Bool
is_driver_number h n = is_driver_entry (entry_of h n)

abbrev pub value_of : List Change → ℕ → ℕ
value_of h n = value_in (entry_of h n)

abbrev pub is_end_of : ℕ → Change → Bool
is_end_of n (Attach e) = false
is_end_of n (Detach m) = m == n
is_end_of n (Replace m r e) = m == n

abbrev pub place_after : Option ℕ → Option ℕ
place_after None = None
place_after (Some i) = Some (suc i)

-- the position of the end of the entry with this number
abbrev pub end_of : List Change → ℕ → Option ℕ
end_of h n = place_after (position (is_end_of n) h)

abbrev pub has_ended : List Change → ℕ → Bool
has_ended h n = is_some (end_of h n)

abbrev pub is_attach : Change → Bool
is_attach (Attach e) = true
is_attach (Detach n) = false
is_attach (Replace n r e) = false

abbrev pub is_detach : Change → Bool
is_detach (Attach e) = false
is_detach (Detach n) = true
is_detach (Replace n r e) = false

-- attaches less detaches: one entry in another's place leaves as many
abbrev pub live_entries : List Change → ℕ
live_entries h = count_by is_attach h - count_by is_detach h

-- a section that began at b, if one is open, may hold an entry with this end (pserialize(9), read sections)
abbrev pub may_hold : Option ℕ → Option ℕ → Bool
may_hold None end = false
may_hold (Some b) None = true
may_hold (Some b) (Some p) = nat_lt b p

-- The registry as a script sees it: a model state, and beside it depths, counts, tallies and labels.

pub record Registry : Type 0 where
  pub settings : Settings
  pub model : Model
  -- of each CPU: how deep its section is nested (0 outside), and how many outermost sections it has begun
  pub depths : ℕ → ℕ
  pub begun : ℕ → ℕ
  -- of each CPU and number: the local references that it acquired, and those that it released by its own count (localcount(9))
  pub acquired : ℕ → ℕ → ℕ
  pub released : ℕ → ℕ → ℕ
  -- of each number: the local references given up under the interlock, and whether an advance has come past its passive references
  pub given_up : ℕ → ℕ
  pub is_collected : ℕ → Bool
  -- what the labels name: a passive reference, and the entry's number of a local one
  pub passive_labels : ℕ → Option CorePsref
  pub local_labels : ℕ → Option ℕ

-- as a script begins
abbrev pub opening_registry : Settings → Registry
opening_registry settings = record {
  settings = settings;
  model = empty_model;
  depths = λ c. 0;
  begun = λ c. 0;
  acquired = λ c n. 0;
  released = λ c n. 0;
  given_up = λ n. 0;
  is_collected = λ n. false;
  passive_labels = λ x. None;
  local_labels = λ x. None;
}
