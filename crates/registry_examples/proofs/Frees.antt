-- How often a slot was freed, by a log: as often as the log before, and once more for each destroy that frees.
use Rattle.std.proofs.Common.{◌≡◌, ◌∙◌, subst, inl, inr, ℕ, zero, suc, ◌+◌, ◌*◌, ◌<◌, ◌≤◌, Bool, true, false, List, [], ◌∷◌, ◌++◌, Option, Some, None, Result, Ok, Err, refl, sym, ap, arith}
use mathlib.Core.List.{IsPrefix}
use Rattle.name_registry.specs.Types.{Settings, Stage, Grace, Passive, Local, Freed, Refusal, LogItem, Vacate, KeptSub, Hear, Tell, Done}
use Rattle.registry_values.specs.Common.{destroy_result_of}
use Rattle.protocol.specs.Common.{destroyed_slot}
use Rattle.cpu_words.specs.Common.{did}
use Rattle.passive_list.specs.Common.{OnCpu, OnKeeper, cpu_after_tell}
use Rattle.name_registry.specs.Common.{HasEnded, HasAdvanced, HasAdvancedFor, SomeAdvancedFor, TurnsMeeting, DestroysOutside, HasLearned, hears_cpu, keeper_after_hear}
use Rattle.registry_examples.specs.{Accounts, HasFreed, MakesAtMost, SomeFreed, with_freed, frees_in, answered_by}

with_more : (o : Option ℕ) (n a b : ℕ) → n ≡ a + b → with_freed o n ≡ with_freed o a + b
with_more None n a b is = is
with_more (Some t) n a b is = omega (arith, is)

pub frees_append : (a b : List LogItem) → frees_in (a ++ b) ≡ frees_in a + frees_in b
frees_append [] b = omega arith
frees_append (d ∷ a) b = with_more (destroyed_slot d.event) (frees_in (a ++ b)) (frees_in a) (frees_in b) (frees_append a b)

pub frees_grow : (a b : List LogItem) → IsPrefix a b → frees_in a ≤ frees_in b
frees_grow a b pre = omega (arith, sym (ap frees_in pre.1) ∙ frees_append a pre.0)

-- A turn that frees

ended_more : (m : OnKeeper) (t : ℕ) (b : OnKeeper) → HasEnded m t b → frees_in m.log < frees_in b.log
ended_more m t b (inl is) =
    let vacates = did (Vacate t) Done in
    let hears = did (Hear None) Done in
    let one : frees_in vacates ≡ 1 = refl in
    omega (arith, ap frees_in is.1.log, frees_append (m.log ++ vacates) hears, frees_append m.log vacates, one)
ended_more m t b (inr is) =
    let ds = did (KeptSub t) Done in
    let one : frees_in ds ≡ 1 = refl in
    let all : frees_in b.log ≡ frees_in m.log + frees_in ds = ap frees_in is.log ∙ frees_append m.log ds in
    omega (arith, all, one)

advanced_more : (a : OnKeeper) (n t : ℕ) (b : OnKeeper) → HasAdvanced a n (Ok (Freed t)) b → frees_in a.log < frees_in b.log
advanced_more a n t b has =
    let meets = has.2.1 in
    omega (arith, frees_grow a.log meets.between.log meets.leaves.log, ended_more meets.between has.0 b meets.ended)

turn_more : (z : Settings) (a : OnKeeper) (x : OnCpu) (n t : ℕ) (b : OnKeeper) (y : OnCpu) → HasAdvancedFor z a x n (Ok (Freed t)) b y → frees_in x.known_log < frees_in y.known_log
turn_more z a x n t b y has =
    let end = has.end.log in
    let hears = hears_cpu (cpu_after_tell x) in
    let log : frees_in b.log ≡ frees_in (end ++ hears) + 0 = ap (λ (k : OnKeeper). frees_in k.log) has.is ∙ frees_append (end ++ hears) (did (Tell None) Done) in
    omega (
      arith,
      frees_grow x.known_log a.log has.known,
      frees_append a.log (hears_cpu x),
      advanced_more (keeper_after_hear a x) n t has.end has.made,
      log,
      frees_append end hears,
      frees_grow b.log y.known_log has.told,
    )

-- All turns

meeting_more : (z : Settings) (n turns : ℕ) (x y : OnCpu) → TurnsMeeting (SomeAdvancedFor z n) turns x y → frees_in x.known_log ≤ frees_in y.known_log
meeting_more z n zero x y is = omega (arith, ap (λ (o : OnCpu). frees_in o.known_log) is)
meeting_more z n (suc turns) x y is = omega (arith, meeting_more z n turns x is.0 is.2, frees_grow is.0.known_log y.known_log is.3.0.2.hears.known_log)

last_more : (z : Settings) (n slot : ℕ) (x y : OnCpu) (met : Result Stage Refusal) → Ok slot ≡ destroy_result_of met → SomeAdvancedFor z n x met y → frees_in x.known_log < frees_in y.known_log
last_more z n slot x y (Ok (Freed t)) told is = turn_more z is.0.0 x n t is.0.1 y is.0.2
last_more z n slot x y (Ok (Grace c)) told is = absurd cc
last_more z n slot x y (Ok (Passive c)) told is = absurd cc
last_more z n slot x y (Ok (Local k)) told is = absurd cc
last_more z n slot x y (Err refusal) told is = absurd cc

-- by the clause `made` of `Registry::destroy`
pub destroyed_more : (z : Settings) (number turns slot : ℕ) (inside : Bool) (x y : OnCpu) → DestroysOutside z number turns inside x (Ok slot) y → frees_in x.known_log < frees_in y.known_log
destroyed_more z number turns slot true x y is = absurd (let refused = is.0 in cc)
destroyed_more z number turns slot false x y is =
    omega (arith, meeting_more z number is.earlier x is.last.0 is.last.1, last_more z number slot is.last.0 y is.met is.told is.last.2)

-- What the packet loop's functions put together

-- a detach, and then a destroy that frees
pub detached_destroyed : (z : Settings) (number turns slot : ℕ) (inside : Bool) (x m y : OnCpu) → HasLearned x m → DestroysOutside z number turns inside m (Ok slot) y
    → frees_in x.known_log < frees_in y.known_log
detached_destroyed z number turns slot inside x m y learned is = omega (arith, frees_grow x.known_log m.known_log learned.known_log, destroyed_more z number turns slot inside m y is)

-- one plug more
pub once_more : (n : ℕ) (a b c : List LogItem) → n ≤ frees_in a → IsPrefix a b → frees_in b < frees_in c → n + 1 ≤ frees_in c
once_more n a b c few grows more = omega (arith, few, frees_grow a b grows, more)

-- the driver besides: by what the close says of any number
pub freed_besides : (z : Settings) (last : List ℕ) (n packets : ℕ) (xs : List OnCpu) (x y o : OnCpu) → Accounts 0 x → MakesAtMost (2 * n + 1) x y → MakesAtMost 1 y o → n ≤ frees_in y.known_log → frees_in y.known_log < frees_in o.known_log
    → packets ≤ answered_by xs → ((k j : ℕ) → Accounts (2 * k) o → k ≤ frees_in o.known_log → j ≤ answered_by xs → HasFreed z last k j) → HasFreed z last (n + 1) packets
freed_besides z last n packets xs x y o new loop unload few more searched closes =
    closes (n + 1) packets (subst (λ (k : ℕ). Accounts k o) (omega arith) (unload.more (0 + (2 * n + 1)) (loop.more 0 new))) (omega (arith, few, more)) searched

pub some_freed : (z : Settings) (last : List ℕ) (n packets : ℕ) → HasFreed z last n packets → SomeFreed n
some_freed z last n packets is = record { settings = z; last = last; packets = packets; freed = is }
