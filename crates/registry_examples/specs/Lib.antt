-- What the packet loop's result says of its run: how often the keeper freed a slot, in the list of events of a run that has ended.
use Rattle.std.specs.Prelude.{◌≡◌, ℕ, suc, ◌+◌, ◌≤◌, List, [], ◌∷◌, length, sum_by, Option, Some, None, Result, Ok, Err}
use Rattle.name_registry.specs.Types.{Settings, LogItem, Change, Entry, Attach, Detach, Replace}
use Rattle.protocol.specs.Common.{answer_of}
use Rattle.protocol.specs.History.{change_at}
use Rattle.protocol.specs.Common.{destroyed_slot}
use Rattle.cpu_words.specs.Common.{part}
use Rattle.passive_list.specs.Common.{OnCpu}
use Rattle.registry_examples.specs.declared.packet_loop.Tally.{Tally}
use Rattle.name_registry.specs.Common.{ClosesRunOf, weigh}
use mathlib.Core.List.{IsPrefix}

-- one more where a slot was freed
abbrev pub with_freed : Option ℕ → ℕ → ℕ
with_freed None n = n
with_freed (Some t) n = suc n

-- how often a slot was freed by these events: each by Vacate, or by KeptSub where the entry kept a driver
abbrev pub frees_in : List LogItem → ℕ
frees_in [] = 0
frees_in (d ∷ ds) = with_freed (destroyed_slot d.event) (frees_in ds)

-- how many entries the change attaches or ends
abbrev pub moves : Change → ℕ
moves (Attach e) = 1
moves (Detach n) = 1
moves (Replace n r e) = 2

abbrev pub moves_in : List Change → ℕ
moves_in h = sum_by moves h

-- each replacement ends an entry that came before
abbrev pub IsOrdered : List Change → Type 0
IsOrdered h = (k n r : ℕ) (e : Entry) → change_at h k ≡ Some (Replace n r e) → n ≤ e.number

-- The CPU's calls made n changes at most that its pass has: what they weigh is there, and each other change weighs at least as much as it moves.
abbrev pub Accounts : ℕ → OnCpu → Type 0
Accounts n x = IsOrdered x.view.pass → x.made + moves_in x.view.pass ≤ weigh x.view.pass + n

-- the CPU's calls from x to y made k changes at most
pub record MakesAtMost (k : ℕ) (x y : OnCpu) : Type 0 where
  pub more : (n : ℕ) → Accounts n x → Accounts (n + k) y

-- they made none, and the CPU has seen as much as before
pub record MakesNone (x y : OnCpu) : Type 0 where
  pub pass : IsPrefix x.view.pass y.view.pass
  pub made : y.made ≡ x.made

-- what the calls of those CPUs made that came back, each with a value
abbrev pub made_in : {X F : Type 0} → List (Result (X × OnCpu) F) → ℕ
made_in [] = 0
made_in (Ok p ∷ rs) = p.1.made + made_in rs
made_in (Err f ∷ rs) = made_in rs

-- how many searches these events answered: each with the entry that was found, or that there is none
abbrev pub answered : Option (Option Entry) → ℕ
answered None = 0
answered (Some e) = 1

abbrev pub answers_in : List LogItem → ℕ
answers_in ds = sum_by (λ (d : LogItem). answered (answer_of d.reply)) ds

-- and how many the logs of these CPUs have
abbrev pub answered_by : List OnCpu → ℕ
answered_by [] = 0
answered_by (x ∷ xs) = answers_in x.log + answered_by xs

-- of those that came back
abbrev pub answered_in : {X F : Type 0} → List (Result (X × OnCpu) F) → ℕ
answered_in [] = 0
answered_in (Ok p ∷ rs) = answers_in p.1.log + answered_in rs
answered_in (Err f ∷ rs) = answered_in rs

-- the packets of a tally, and of those that came back with a CPU
abbrev pub total_of : Tally → ℕ
total_of t = sum_by (λ (n : ℕ). n) t.0

abbrev pub counted_in : {F : Type 0} → List (Result (Tally × OnCpu) F) → ℕ
counted_in [] = 0
counted_in (Ok p ∷ rs) = total_of p.0 + counted_in rs
counted_in (Err f ∷ rs) = counted_in rs

-- A run of a registry with these settings ended in these words, with all its CPUs: what each of them did is in its list, and what they changed is all that was changed. A slot was freed in it n times,
-- no more and no less. So many packets, or more, were searched for by the CPUs' logs.
pub record HasFreed (z : Settings) (last : List ℕ) (n packets : ℕ) : Type 0 where
  pub parts : ℕ
  pub cpus : List OnCpu
  pub all : length cpus ≡ parts
  pub run : ClosesRunOf z parts cpus last
  pub times : frees_in (part 0 run.run.acts) ≡ n
  pub searched : packets ≤ answered_by cpus

-- some words are the last of such a run
pub record SomeFreed (n : ℕ) : Type 0 where
  pub settings : Settings
  pub last : List ℕ
  pub packets : ℕ
  pub freed : HasFreed settings last n packets
