-- A CPU acquires and releases local references: why it may, what it leaves, and that its plain data agree with its view on.
use Rattle.std.proofs.Common.{◌≡◌, ◌≢◌, ⊎_elim, ◌⊎◌, ℕ, ◌+◌, ◌<◌, ◌≤◌, List, set, ◌++◌, Bool, true, false, ◌==◌, cond, refl, sym, ap, ◌∙◌, subst, arith, length-set, nat_lt, Option, Some, None, ◌-◌}
use Rattle.std.proofs.lemmas.Bool.{eq-eqb, ne_eqb, ltb-true}
use Rattle.std.specs.Prelude.{if◌then◌else◌}
use mathlib.Core.Logic.{dite}
use native.Mathlib.Decide.{ℕ_discrete}
use Rattle.atomic_table.specs.Seated.{TableId}
use Rattle.passive_list.specs.Types.{Settings, Row, CpuView, Cpu, Entry, Refusal, LocalFull, NothingFound, ReferenceView, Kind, CountDown, JoinRef, SplitBack, Collected, Done, Ref, Word}
use Rattle.registry_values.specs.Common.{bias, why_uncounted}
use Rattle.registry_values.proofs.Answers.{uncounted_alike}
use Rattle.registry_values.proofs.Fit.{ranges}
use Rattle.protocol.specs.Common.{greatest_limit}
use Rattle.protocol.proofs.History.{attached_within}
use Rattle.protocol.proofs.Occupied.{place_cases}
use Rattle.cpu_words.specs.Common.{number_at, with_number, IsShownCpu, IsPlaceCount, IsMetAlone, one_more, IsNetCount, MayCount, MayCountDown, HasCounted, HasSplit, HasCountedDown, HasFoundCollected, HasSplitBack, Makes, Seated, did, down_reply, with_hand}
use Rattle.cpu_words.specs.declared.view.InHand.TheVariants.{Empty as NoEntry, Taking as TakingEntry, Giving as GivingEntry, Back as BackEntry}
use Rattle.cpu_words.proofs.by_cpu.Locals.{with_number_same, with_number_other, one_more_same, one_more_other, place_is}
use Rattle.cpu_words.proofs.seats.Seating.{found_is_in}
use Rattle.passive_list.specs.Common.{Memory, no_place, place_at, NetAgree, IsOurCpu, IsKept}
use Rattle.passive_list.specs.declared.place.Found.{Found}
use Rattle.passive_list.specs.declared.place.NumberedCount.{NumberedCount}
use Rattle.passive_list.proofs.Agreeing.{IsFoundAs, cpu_at, found_as, found_none}
use Rattle.local_count.specs.{net_by, net_word, HasComeBack, HasReleased, why_not_acquired_local}
use Rattle.local_count.specs.References.{IsOurReference}

-- the place of a slot says a number's net count, where it is for that number
pub place_here : (x : CpuView) (l : List NumberedCount) (t n : ℕ) → NetAgree x l → 0 < n → (place_at l t).number ≡ n → IsPlaceCount x t n (place_at l t).count
place_here x l t n agree begun same = record {
  met = λ _. subst (λ m. (place_at l t).count + number_at x.released m ≡ bias + number_at x.acquired m) same (agree.counts t (λ none. absurd (omega arith)));
  other = λ off. absurd (off (sym (agree.met t) ∙ same));
}

-- where it is for another number, this one's count is none
pub place_other : (x : CpuView) (l : List NumberedCount) (t n : ℕ) → NetAgree x l → (place_at l t).number ≢ n → IsPlaceCount x t n bias
place_other x l t n agree off = record { met = λ same. absurd (off (agree.met t ∙ same)); other = λ _. refl }

-- so it is by `net_by`
pub place_count : (x : CpuView) (l : List NumberedCount) (t n w : ℕ) → NetAgree x l → 0 < n → w ≡ net_by (place_at l t) n → IsPlaceCount x t n w
place_count x l t n w agree begun is = dite (ℕ_discrete (place_at l t).number n)
    (λ (same : (place_at l t).number ≡ n). subst (IsPlaceCount x t n) (sym (is ∙ ap (λ b. cond b (place_at l t).count bias) (eq-eqb (place_at l t).number n same)))
    (place_here x l t n agree begun same))
    (λ (off : (place_at l t).number ≢ n). subst (IsPlaceCount x t n) (sym (is ∙ ap (λ b. cond b (place_at l t).count bias) (ne_eqb (place_at l t).number n off))) (place_other x l t n agree off))

-- and within the greatest limit
pub net_most : (x : CpuView) (l : List NumberedCount) (t n w : ℕ) → NetAgree x l → w ≡ net_by (place_at l t) n → w ≤ bias + greatest_limit
net_most x l t n w agree is = subst (λ k. k ≤ bias + greatest_limit) (sym is) (either ((place_at l t).number == n))
  where
    either : (b : Bool) → cond b (place_at l t).count bias ≤ bias + greatest_limit
    either true = agree.most t
    either false = omega arith

-- The place of a slot is set to a number that was met in no other slot, and its net count

pub net_set : (x y : CpuView) (l : List NumberedCount) (t n v : ℕ) → NetAgree x l → t < x.settings.slots → y.settings ≡ x.settings → IsMetAlone x t n → y.met ≡ with_number x.met t n
    → v + number_at y.released n ≡ bias + number_at y.acquired n → v ≤ bias + greatest_limit
    → ((m : ℕ) → m ≢ n → (number_at y.acquired m ≡ number_at x.acquired m) × (number_at y.released m ≡ number_at x.released m)) → NetAgree y (set l t (record { number = n; count = v }))
net_set x y l t n v agree lt settings alone met count most same = record {
  size = length-set l t place ∙ agree.size ∙ ap (λ (s : Settings). s.slots) (sym settings);
  met = λ u. ⊎_elim
      (λ (on : (u ≡ t) × (place_at (set l t place) u ≡ place)). ap (λ (p : NumberedCount). p.number) on.1
      ∙ sym (ap (λ k. number_at y.met k) on.0 ∙ ap (λ m. number_at m t) met ∙ with_number_same x.met t n))
      (λ (off : (u ≡ t → ⊥) × (place_at (set l t place) u ≡ place_at l u)). ap (λ (p : NumberedCount). p.number) off.1 ∙ agree.met u
      ∙ sym (ap (λ m. number_at m u) met ∙ with_number_other x.met t n u off.0))
      (at u);
  counts = λ u some. ⊎_elim
      (λ (on : (u ≡ t) × (place_at (set l t place) u ≡ place)). subst Counts (sym on.1) count)
      (λ (off : (u ≡ t → ⊥) × (place_at (set l t place) u ≡ place_at l u)).
      let p = place_at l u in
      let was = agree.counts u (λ none. some (ap (λ (q : NumberedCount). q.number) off.1 ∙ none)) in
      let on = same p.number (λ is. off.0 (alone u (sym (agree.met u) ∙ is))) in
      subst Counts (sym off.1) (ap (λ k. p.count + k) on.1 ∙ was ∙ ap (λ k. bias + k) (sym on.0)))
      (at u);
  most = λ u. ⊎_elim
      (λ (on : (u ≡ t) × (place_at (set l t place) u ≡ place)). subst (λ (p : NumberedCount). p.count ≤ bias + greatest_limit) (sym on.1) most)
      (λ (off : (u ≡ t → ⊥) × (place_at (set l t place) u ≡ place_at l u)). subst (λ (p : NumberedCount). p.count ≤ bias + greatest_limit) (sym off.1) (agree.most u))
      (at u);
}
  where
    place : NumberedCount
    place = record { number = n; count = v }

    at : (u : ℕ) → ((u ≡ t) × (place_at (set l t place) u ≡ place)) ⊎ ((u ≡ t → ⊥) × (place_at (set l t place) u ≡ place_at l u))
    at u = place_cases no_place l t place u (omega (arith, agree.size, lt))

    Counts : NumberedCount → Type 0
    Counts p = p.count + number_at y.released p.number ≡ bias + number_at y.acquired p.number

-- The data agree with the view after a count, up or down

pub counted_agrees : (z : TableId) (a : Settings) (t u : TableId) (x : CpuView) (c : Row) (w d : ℕ) (o : Found) (ps ns : List NumberedCount) (ms : Memory) (acquired released : List ℕ) (s n v : ℕ)
    → IsOurCpu z a t x c w d o ps ns ms → IsShownCpu (record x { acquired = acquired; released = released; met = with_number x.met s n }) → u ≡ t → s < x.settings.slots → IsMetAlone x s n
    → v + number_at released n ≡ bias + number_at acquired n → v ≤ bias + greatest_limit
    → ((m : ℕ) → m ≢ n → (number_at acquired m ≡ number_at x.acquired m) × (number_at released m ≡ number_at x.released m))
    → IsOurCpu z a u (record x { acquired = acquired; released = released; met = with_number x.met s n }) c w d o ps (set ns s (record { number = n; count = v })) ms
counted_agrees z a t u x c w d o ps ns ms acquired released s n v our is_shown same lt alone count most others =
    let y : CpuView = record x { acquired = acquired; released = released; met = with_number x.met s n } in
    assumption (same ∙ our.table, net_set x y ns s n v our.net lt refl alone refl count most others, our)

-- the seat's table and view are as they were
pub same_agrees : (z : TableId) (a : Settings) (t u : TableId) (x y : CpuView) (c : Row) (w d : ℕ) (o : Found) (ps ns : List NumberedCount) (ms : Memory) → IsOurCpu z a t x c w d o ps ns ms → u ≡ t → y ≡ x
    → IsOurCpu z a u y c w d o ps ns ms
same_agrees z a t u x y c w d o ps ns ms our same view = subst (λ (p : TableId × CpuView). IsOurCpu z a p.0 p.1 c w d o ps ns ms) (λ k. (sym same k, sym view k)) our

-- a place that is told by an equation is this one
pub stored_agrees : (z : TableId) (a : Settings) (t : TableId) (x : CpuView) (c : Row) (w d : ℕ) (o : Found) (ps ns : List NumberedCount) (ms : Memory) (s : ℕ) (p q : NumberedCount) → q ≡ p
    → IsOurCpu z a t x c w d o ps (set ns s p) ms → IsOurCpu z a t x c w d o ps (set ns s q) ms
stored_agrees z a t x c w d o ps ns ms s p q is = subst (λ (r : NumberedCount). IsOurCpu z a t x c w d o ps (set ns s r) ms) (sym is)

-- A CPU acquires a local reference: why it may, and what it leaves.

-- Where an acquire is refused

-- where the CPU found nothing last
pub nothing_found : (x : CpuView) → x.found ≡ None → Some NothingFound ≡ why_not_acquired_local x x.found
nothing_found x none = sym (ap (why_not_acquired_local x) none)

some_not_none : (f : Refusal) → ◌≡◌ {A = Option Refusal} (Some f) None → ⊥
some_not_none f q = cc

-- where it isn't, the CPU keeps its last found entry as k
pub record MayAcquire (x : CpuView) (k : Found) : Type 0 where
  pub none : why_not_acquired_local x x.found ≡ None
  pub kept : IsFoundAs x k

-- by the result for the CPU, which is y to a contract
pub may_acquire : (x y : CpuView) (k : Found) (why : Option Refusal) → IsShownCpu x → IsKept k x.found → x ≡ y → why ≡ why_not_acquired_local y y.found → ((f : Refusal) → why ≡ Some f → ⊥)
    → MayAcquire x k
may_acquire x y k (Some f) shown kept view told off = absurd (off f refl)
may_acquire x y k None shown kept view told off =
    let none = ap (λ (v : CpuView). why_not_acquired_local v v.found) view ∙ sym told in
    record { none = none; kept = found_as x k shown kept (λ zero. some_not_none NothingFound (nothing_found x (found_none x k shown kept zero) ∙ none)) }

counted_room : (n most : ℕ) → why_uncounted n most ≡ None → n < most
counted_room n most none = tells (nat_lt n most) refl none
  where
    tells : (b : Bool) → nat_lt n most ≡ b → ◌≡◌ {A = Option Refusal} (if b then None else Some LocalFull) None → n < most
    tells true test q = ltb-true n most test
    tells false test q = absurd (some_not_none LocalFull q)

begun_of : (x : CpuView) (k : Found) → IsFoundAs x k → 0 < k.number
begun_of x k kept = omega (arith, (attached_within x.pass kept.entry kept.attached).0, kept.number)

-- what its place says is its net count for that entry, which has its slot
net_of_found : (z : TableId) (a : Settings) (t : TableId) (x : CpuView) (c : Row) (w d : ℕ) (k : Found) (ps ns : List NumberedCount) (ms : Memory) (n : ℕ) (kept : IsFoundAs x k)
    → IsOurCpu z a t x c w d k ps ns ms → n ≡ net_by (place_at ns k.slot) k.number → IsNetCount x kept.entry.number n
net_of_found z a t x c w d k ps ns ms n kept our count =
    let e = kept.entry in
    let s = our.is_shown in
    let place : IsPlaceCount x e.slot e.number n =
    subst (λ (p : ℕ × ℕ). IsPlaceCount x p.0 p.1 n) (λ i. (kept.slot i, kept.number i)) (place_count x ns k.slot k.number n our.net (begun_of x k kept) count) in
    place_is s.g x e.slot e n s.shown (found_is_in x e s kept.found).1 place

-- so the acquire is refused as that count is
pub why_by_place : (z : TableId) (a : Settings) (t : TableId) (x : CpuView) (c : Row) (w d : ℕ) (k : Found) (ps ns : List NumberedCount) (ms : Memory) (n limit : ℕ) (kept : IsFoundAs x k)
    → IsOurCpu z a t x c w d k ps ns ms → n ≡ net_by (place_at ns k.slot) k.number → limit ≡ x.settings.count_limit → why_uncounted n (bias + limit) ≡ why_not_acquired_local x x.found
why_by_place z a t x c w d k ps ns ms n limit kept our count is =
    let net = net_of_found z a t x c w d k ps ns ms n kept our count in
    let e = kept.entry in
    uncounted_alike n (bias + limit) (number_at x.acquired e.number) (number_at x.released e.number + x.settings.count_limit) (λ lt. omega (arith, net, is, lt)) (λ ge. omega (arith, net, is, ge))
    ∙ sym (ap (why_not_acquired_local x) kept.found)

-- and where it isn't, the CPU may count the entry
pub may_count : (z : TableId) (a : Settings) (t : TableId) (x : CpuView) (c : Row) (w d : ℕ) (k : Found) (ps ns : List NumberedCount) (ms : Memory)
    → IsOurCpu z a t x c w d k ps ns ms → MayAcquire x k → MayCount x k.slot k.number
may_count z a t x c w d k ps ns ms our may =
    let kept = may.kept in
    let n = net_by (place_at ns k.slot) k.number in
    record {
      idle = our.idle;
      entry = kept.entry;
      found = kept.found;
      slot = sym kept.slot;
      number = sym kept.number;
      count = n;
      place = place_count x ns k.slot k.number n our.net (begun_of x k kept) refl;
      room = counted_room n (bias + x.settings.count_limit) (why_by_place z a t x c w d k ps ns ms n x.settings.count_limit kept our refl refl ∙ may.none);
    }

-- What the addition and the cut leave

pub record Acquired (x : CpuView) (e : Entry) (w : CpuView) (v : ReferenceView) : Type 0 where
  pub is : v ≡ record { entry = e; collected = None }
  pub view : w ≡ record x { acquired = one_more x.acquired e.number; met = with_number x.met e.slot e.number }

pub acquired_of : (x y w : CpuView) (v : ReferenceView) (e : Entry) → x.found ≡ Some e → x.hand ≡ NoEntry → HasCounted x e.slot e.number y → HasSplit y w v → Acquired x e w v
acquired_of x y w v e found empty counted cut =
    let hand : TakingEntry cut.0 ≡ TakingEntry counted.0 = sym cut.1 ∙ ap (λ (k : CpuView). k.hand) counted.4 in
    let was : ◌≡◌ {A = Option Entry} (Some counted.0) (Some e) = sym counted.1 ∙ found in
    let one : cut.0 ≡ e = cc in record {
      is = cut.3 ∙ (λ k. record { entry = one k; collected = None });
      view = cut.2 ∙ ap (λ (k : CpuView). record k { hand = NoEntry }) counted.4
          ∙ (λ k. record x { hand = sym empty k; acquired = one_more x.acquired e.number; met = with_number x.met e.slot e.number });
    }

-- the step counted the entry that is kept as k
counted_it : (x y : CpuView) (k : Found) (kept : IsFoundAs x k) → HasCounted x k.slot k.number y → HasCounted x kept.entry.slot kept.entry.number y
counted_it x y k kept = subst (λ (p : ℕ × ℕ). HasCounted x p.0 p.1 y) (λ i. (kept.slot i, kept.number i))

pub acquired_reference : (z : TableId) (a : Settings) (t : TableId) (x : CpuView) (c : Row) (w d : ℕ) (k : Found) (ps ns : List NumberedCount) (ms : Memory) (y l : CpuView) (v : ReferenceView)
    → IsOurCpu z a t x c w d k ps ns ms → IsFoundAs x k → HasCounted x k.slot k.number y → HasSplit y l v → IsOurReference v k.number k.slot k.kind
acquired_reference z a t x c w d k ps ns ms y l v our kept counted cut =
    let left = acquired_of x y l v kept.entry kept.found our.idle.hand (counted_it x y k kept counted) cut in
    subst (λ (r : ReferenceView). IsOurReference r k.number k.slot k.kind) (sym left.is)
    record { number = sym kept.number; slot = sym kept.slot; kind = sym kept.kind; begun = begun_of x k kept; few = kept.few }

pub acquired_agrees : (z : TableId) (a : Settings) (t u : TableId) (x : CpuView) (c : Row) (w d : ℕ) (k : Found) (ps ns : List NumberedCount) (ms : Memory) (y l : CpuView) (v : ReferenceView) (n : ℕ)
    → IsOurCpu z a t x c w d k ps ns ms → IsShownCpu l → IsFoundAs x k → u ≡ t → HasCounted x k.slot k.number y → HasSplit y l v → IsNetCount x k.number n → n < bias + x.settings.count_limit
    → IsMetAlone x k.slot k.number
    → IsOurCpu z a u l c w d k ps (set ns k.slot (record { number = k.number; count = n + 1 })) ms
acquired_agrees z a t u x c w d k ps ns ms y l v n our is_shown kept same counted cut net room alone =
    let left = acquired_of x y l v kept.entry kept.found our.idle.hand (counted_it x y k kept counted) cut in
    let view : l ≡ record x { acquired = one_more x.acquired k.number; met = with_number x.met k.slot k.number } =
    left.view ∙ (λ i. record x { acquired = one_more x.acquired (sym kept.number i); met = with_number x.met (sym kept.slot i) (sym kept.number i) }) in
    let count : n + 1 + number_at x.released k.number ≡ bias + number_at (one_more x.acquired k.number) k.number = omega (arith, net, one_more_same x.acquired k.number) in
    let limit : x.settings.count_limit ≤ greatest_limit = subst (λ (b : Settings). b.count_limit ≤ greatest_limit) (sym our.settings) (ranges a our.fit).counts in
    subst (λ (q : CpuView). IsOurCpu z a u q c w d k ps (set ns k.slot (record { number = k.number; count = n + 1 })) ms) (sym view)
    (counted_agrees z a t u x c w d k ps ns ms (one_more x.acquired k.number) x.released k.slot k.number (n + 1) our (subst IsShownCpu view is_shown) same kept.within alone count
    (omega (arith, room, limit)) (λ m off. (one_more_other x.acquired k.number m off, refl)))

-- A CPU releases a local reference: why it may, and what it leaves.

-- the reference in the hand is the one that was taken in, and the count is what its slot's place says
pub may_count_down : (x y : CpuView) (v : ReferenceView) (l : List NumberedCount) (n s w : ℕ) (kind : Kind) → NetAgree x l → IsOurReference v n s kind → w ≡ net_by (place_at l s) n
    → y ≡ with_hand x (GivingEntry v.entry) → MayCountDown y s n w
may_count_down x y v l n s w kind agree its is joined =
    let place = place_count x l s n w agree its.begun is in
    let there : IsPlaceCount (with_hand x (GivingEntry v.entry)) s n w = record { met = place.met; other = place.other } in record {
      entry = v.entry;
      giving = ap (λ (q : CpuView). q.hand) joined;
      slot = its.slot;
      number = its.number;
      place = subst (λ (q : CpuView). IsPlaceCount q s n w) (sym joined) there;
    }

-- what the count leaves
pub released_of : (x y w : CpuView) (e : Entry) (s n : ℕ) → x.hand ≡ NoEntry → y ≡ with_hand x (GivingEntry e) → HasCountedDown y s n w
    → w ≡ record x { released = one_more x.released n; met = with_number x.met s n }
released_of x y w e s n empty joined counted = counted.4 ∙ ap (λ (k : CpuView). record k { hand = NoEntry; released = one_more k.released n; met = with_number k.met s n }) joined
    ∙ (λ k. record x { hand = sym empty k; released = one_more x.released n; met = with_number x.met s n })

pub released_agrees : (z : TableId) (a : Settings) (t u : TableId) (x : CpuView) (c : Row) (w d : ℕ) (o : Found) (ps ns : List NumberedCount) (ms : Memory) (v : ReferenceView) (n s count : ℕ) (kind : Kind) (y k : CpuView)
    → IsOurCpu z a t x c w d o ps ns ms → IsShownCpu k → IsOurReference v n s kind → s < x.settings.slots → u ≡ t → y ≡ with_hand x (GivingEntry v.entry) → HasCountedDown y s n k → 0 < count → count ≡ net_by (place_at ns s) n
    → IsNetCount y n count → IsMetAlone y s n
    → IsOurCpu z a u k c w d o ps (set ns s (record { number = n; count = count - 1 })) ms
released_agrees z a t u x c w d o ps ns ms v n s count kind y k our is_shown its lt same joined counted floor is net alone =
    let was : count + number_at x.released n ≡ bias + number_at x.acquired n = subst (λ (q : CpuView). IsNetCount q n count) joined net in
    let after : count - 1 + number_at (one_more x.released n) n ≡ bias + number_at x.acquired n = omega (arith, was, one_more_same x.released n, floor) in
    let view = released_of x y k v.entry s n our.idle.hand joined counted in
    subst (λ (q : CpuView). IsOurCpu z a u q c w d o ps (set ns s (record { number = n; count = count - 1 })) ms) (sym view)
    (counted_agrees z a t u x c w d o ps ns ms x.acquired (one_more x.released n) s n (count - 1) our (subst IsShownCpu view is_shown) same lt
    (subst (λ (q : CpuView). IsMetAlone q s n) joined alone) after (omega (arith, net_most x ns s n count our.net is)) (λ m off. (refl, one_more_other x.released n m off)))

-- the reply of a count down from a word that was found
replied : (w old : ℕ) → w ≡ old → down_reply old w ≡ Word old
replied w old same = ap (λ (b : Bool). cond b (Word w) Collected) (eq-eqb w old same) ∙ ap Word same

-- what the release is to a contract
pub has_released : (x j k : Seated CpuView) (v : ReferenceView) (c n s w count depth : ℕ) (m : Memory) (kind : Kind) → x.view.id ≡ c → x.view.hand ≡ NoEntry → IsOurReference v n s kind
    → j.view ≡ with_hand x.view (GivingEntry v.entry) → HasCountedDown j.view s n k.view → IsNetCount j.view n count → w ≡ count
    → j.log ≡ x.log ++ did (JoinRef c v.entry.number) Done → k.log ≡ j.log ++ did (CountDown c) (down_reply count w) → j.known_log ≡ x.known_log → k.known_log ≡ j.known_log
    → HasReleased (cpu_at x depth m) v (cpu_at k depth m)
has_released x j k v c n s w count depth m kind is_id empty its joined counted net same first second known after =
    let id : c ≡ x.view.id = sym is_id in
    let number : n ≡ v.entry.number = sym its.number in
    let slot : s ≡ v.entry.slot = sym its.slot in
    let was : count + number_at x.view.released n ≡ bias + number_at x.view.acquired n = subst (λ (q : CpuView). IsNetCount q n count) joined net in
    let word : count ≡ net_word x.view n = omega (arith, was) in
    let count_is : count ≡ net_word x.view v.entry.number = word ∙ ap (net_word x.view) number in
    let view = released_of x.view j.view k.view v.entry s n empty joined counted
    ∙ (λ i. record x.view { released = one_more x.view.released (number i); met = with_number x.view.met (slot i) (number i) }) in
    let log = second ∙ (λ i. first i ++ did (CountDown c) (replied w count same i))
    ∙ (λ i. x.log ++ did (JoinRef (id i) v.entry.number) Done ++ did (CountDown (id i)) (Word (count_is i))) in
    let heard = after ∙ known in
    (λ i. record { view = view i; depth = depth; made = 0; memory = m; known_log = heard i; log = log i })

-- What a collected word leaves: the CPU as it was, and the reference again

pub record ComeBack (x : CpuView) (e : Entry) (w : CpuView) (v : ReferenceView) : Type 0 where
  pub cpu : w ≡ x
  pub is : v ≡ record { entry = e; collected = Some x.id }

pub come_back : (x y k w : CpuView) (e : Entry) (n : ℕ) (v : ReferenceView) → x.hand ≡ NoEntry → y ≡ with_hand x (GivingEntry e) → HasFoundCollected y n k → HasSplitBack k w v → ComeBack x e w v
come_back x y k w e n v empty joined found cut =
    let giving : GivingEntry found.0 ≡ GivingEntry e = sym found.1 ∙ ap (λ (q : CpuView). q.hand) joined in
    let back : BackEntry cut.0 ≡ BackEntry found.0 = sym cut.1 ∙ ap (λ (q : CpuView). q.hand) found.3 in
    let one : cut.0 ≡ e = cc in
    let id : k.id ≡ x.id = ap (λ (q : CpuView). q.id) found.3 ∙ ap (λ (q : CpuView). q.id) joined in record {
      cpu = cut.2 ∙ ap (λ (q : CpuView). with_hand q NoEntry) found.3 ∙ ap (λ (q : CpuView). with_hand q NoEntry) joined ∙ (λ i. with_hand x (sym empty i));
      is = cut.3 ∙ (λ i. record { entry = one i; collected = Some (id i) });
    }

-- the reply of a count down from another word than was found
replied_collected : (w old : ℕ) → w ≢ old → down_reply old w ≡ Collected
replied_collected w old off = ap (λ (b : Bool). cond b (Word w) Collected) (ne_eqb w old off)

-- what it is to a contract
pub has_come_back : (x j k l : Seated CpuView) (v r : ReferenceView) (c n w count depth : ℕ) (m : Memory) → x.view.id ≡ c → x.view.hand ≡ NoEntry → j.view ≡ with_hand x.view (GivingEntry v.entry) → w ≢ count
    → Makes (CountDown c) Collected (Cpu j.view) (Cpu k.view) × HasFoundCollected j.view n k.view → HasSplitBack k.view l.view r
    → j.log ≡ x.log ++ did (JoinRef c v.entry.number) Done → k.log ≡ j.log ++ did (CountDown c) (down_reply count w) → l.log ≡ k.log ++ did (SplitBack c) (Ref 0)
    → j.known_log ≡ x.known_log → k.known_log ≡ j.known_log → l.known_log ≡ k.known_log → HasComeBack (cpu_at x depth m) v (cpu_at l depth m) r
has_come_back x j k l v r c n w count depth m is_id empty joined off made cut first second third known heard last =
    let found = made.1 in
    let back = come_back x.view j.view k.view l.view v.entry n r empty joined found cut in
    let id : c ≡ x.view.id = sym is_id in
    let giving : GivingEntry found.0 ≡ GivingEntry v.entry = sym found.1 ∙ ap (λ (q : CpuView). q.hand) joined in
    let one : found.0 ≡ v.entry = cc in
    let ended : k.view ≡ with_hand x.view (BackEntry v.entry) =
    found.3 ∙ ap (λ (q : CpuView). with_hand q (BackEntry found.0)) joined ∙ ap (λ (f : Entry). with_hand x.view (BackEntry f)) one in
    let log = third ∙ (λ i. second i ++ did (SplitBack c) (Ref 0)) ∙ (λ i. first i ++ did (CountDown c) (replied_collected w count off i) ++ did (SplitBack c) (Ref 0))
    ∙ (λ i. x.log ++ did (JoinRef (id i) v.entry.number) Done ++ did (CountDown (id i)) Collected ++ did (SplitBack (id i)) (Ref 0)) in
    let told = last ∙ heard ∙ known in record {
      cpu = λ i. record { view = back.cpu i; depth = depth; made = 0; memory = m; known_log = told i; log = log i };
      is = back.is;
      found = subst (λ (p : ℕ × CpuView × CpuView). Makes (CountDown p.0) Collected (Cpu p.1) (Cpu p.2)) (λ i. (id i, joined i, ended i)) made.0;
    }
