-- Local references: what a CPU's calls leave.
pub mod Draining
pub mod References
use Rattle.std.specs.Prelude.{◌≡◌, ◌⊎◌, ℕ, ◌+◌, ◌-◌, ◌++◌, ◌==◌, if◌then◌else◌, Option, Some, None, Result, Err, IfErr}
use Rattle.passive_list.specs.Types.{Entry, Key, Refusal, NothingFound, CountAdd, CountDown, JoinRef, SplitBack, SplitRef, Collected, Done, Ref, Word, CpuView, ReferenceView, Cpu}
use Rattle.registry_values.specs.declared.refusal.Refusal.TheVariants.{NotFound}
use Rattle.registry_values.specs.Common.{why_uncounted, Answers, bias}
use Rattle.cpu_words.specs.declared.view.InHand.TheVariants.{Giving as GivingEntry, Back as BackEntry}
use Rattle.cpu_words.specs.Common.{number_at, with_number, one_more, did, Makes, with_hand}
use Rattle.passive_list.specs.declared.place.NumberedCount.{NumberedCount}
use Rattle.passive_list.specs.Common.{FindsInside, IsFoundLast, OnCpu}
use Rattle.passive_list.specs.declared.lookup.Seen.{Seen}

-- a number's net count by the place of its slot, over the bias: none where the place is for another number
abbrev pub net_by : NumberedCount → ℕ → ℕ
net_by p n = if p.number == n then p.count else bias

-- the CPU's own net count for n, over the bias, by what its seat knows: its count word, while it is n's
abbrev pub net_word : CpuView → ℕ → ℕ
net_word x n = bias + number_at x.acquired n - number_at x.released n

-- a reference to the last found entry was counted, and got its seat; of the CPU nothing else changes
pub record HasAcquired (a b : OnCpu) (v : ReferenceView) : Type 0 where
  pub entry : Entry
  pub found : a.view.found ≡ Some entry
  pub is : v ≡ record { entry = entry; collected = None }
  pub cpu : b ≡ record a {
    view = record a.view { acquired = one_more a.view.acquired entry.number; met = with_number a.view.met entry.slot entry.number };
    log = a.log ++ did (CountAdd a.view.id) (Word (net_word a.view entry.number)) ++ did (SplitRef a.view.id) (Ref 0);
  }

-- Why an acquire is refused, nothing where it isn't: by what the CPU found last. There is none, or the CPU's own net count for it is at the limit.
abbrev pub why_not_acquired_local : CpuView → Option Entry → Option Refusal
why_not_acquired_local x None = Some NothingFound
why_not_acquired_local x (Some e) = why_uncounted (number_at x.acquired e.number) (number_at x.released e.number + x.settings.count_limit)

-- what an acquire answers, whose reference is `of` what it gives; a refused one changes nothing
pub record AnswersAcquireLocal {X : Type 0} (a b : OnCpu) (r : Result X Refusal) (of : X → ReferenceView) : Type 0 where
  pub answer : Answers (why_not_acquired_local a.view a.view.found) (λ x. HasAcquired a b (of x)) r
  pub refused : IfErr r (λ _. b ≡ a)

-- An acquire of the entry n, and of no other one: of the last found entry, or of the one that a lookup finds.

-- it is acquired, unless the CPU's own count is at the limit
pub record AcquiresLastLocal {X : Type 0} (n : ℕ) (a b : OnCpu) (r : Result X Refusal) (of : X → ReferenceView) : Type 0 where
  pub last : IsFoundLast a.view n
  pub answer : AnswersAcquireLocal a b r of

-- it isn't n
pub record AcquiresNoLocal {X : Type 0} (n : ℕ) (a b : OnCpu) (r : Result X Refusal) : Type 0 where
  pub other : IsFoundLast a.view n → ⊥
  pub answer : r ≡ Err NotFound
  pub same : b ≡ a

-- The last found entry isn't n. A lookup for the key leaves the CPU as c. Then it is the last found one, or it isn't.
pub record AcquiresSoughtLocal {X : Type 0} (n : ℕ) (key : Key) (a b : OnCpu) (r : Result X Refusal) (of : X → ReferenceView) : Type 0 where
  pub other : IsFoundLast a.view n → ⊥
  pub c : OnCpu
  pub seen : Option Seen
  pub finds : FindsInside key a c seen
  pub how : AcquiresLastLocal n c b r of ⊎ AcquiresNoLocal n c b r

abbrev pub AcquiresEntryLocal : {X : Type 0} → ℕ → Key → OnCpu → OnCpu → Result X Refusal → (X → ReferenceView) → Type 0
AcquiresEntryLocal n key a b r of = AcquiresLastLocal n a b r of ⊎ AcquiresSoughtLocal n key a b r of

-- the reference was taken in and released by the CPU's own count; of the CPU nothing else changes
abbrev pub HasReleased : OnCpu → ReferenceView → OnCpu → Type 0
HasReleased a v b = b ≡ record a {
  view = record a.view { released = one_more a.view.released v.entry.number; met = with_number a.view.met v.entry.slot v.entry.number };
  log = a.log ++ did (JoinRef a.view.id v.entry.number) Done ++ did (CountDown a.view.id) (Word (net_word a.view v.entry.number));
}

-- The CPU found its count word collected, by a compare-exchange that it made. The reference is to the same entry, and shows it; the CPU is
-- as it was, except its log.
pub record HasComeBack (a : OnCpu) (v : ReferenceView) (b : OnCpu) (w : ReferenceView) : Type 0 where
  pub cpu : b ≡ record a { log = a.log ++ did (JoinRef a.view.id v.entry.number) Done ++ did (CountDown a.view.id) Collected ++ did (SplitBack a.view.id) (Ref 0) }
  pub is : w ≡ record { entry = v.entry; collected = Some a.view.id }
  pub found : Makes (CountDown a.view.id) Collected (Cpu (with_hand a.view (GivingEntry v.entry))) (Cpu (with_hand a.view (BackEntry v.entry)))
