-- What a CPU's view tells of the core that shows it, its pass, and the live words, which stay honest.
use Rattle.std.proofs.Common.{◌≡◌, ℕ, ◌≤◌, List, ◌++◌, length, take, drop, sym, ap, ◌∙◌, subst, arith, append_assoc, zero, suc, set, Bool, true, false, refl, ◌<◌, ◌==◌, None, ◌⊎◌, inl, inr, ⊎_elim, Option, Some}
use Rattle.std.proofs.lemmas.List.{take-append-drop, length-take-le, take_all, take-append-le}
use Rattle.std.proofs.lemmas.Bool.{eq-eqb, lt-ltb, ne_eqb}
use Rattle.std.proofs.lemmas.Option.{none-some}
use mathlib.Core.List.{IsPrefix}
use Rattle.cpu_words.specs.Types.{Entry, Change, Slot, Vacant, Live, Retired, Hand, Empty, Taking, Giving, Back, Trying}
use Rattle.registry_values.specs.Common.{slot_at, slot_of}
use Rattle.registry_values.proofs.Fit.{Ranges, ranges}
use Rattle.protocol.specs.Common.{IsAttached, is_honest, live_at, State, section_at, begin_at, seen_at, search_at, found_at, hand_at, is_idle, one_if, trying_at, trying_of, IsIn, Occupies, brought_by}
use Rattle.protocol.specs.History.{change_at}
use Rattle.protocol.proofs.History.{at_prefix, attached_within, one_entry}
use Rattle.protocol.proofs.Occupied.{attached_in, slot_found, slot_occupied}
use Rattle.protocol.proofs.Cells.{place_put}
use Rattle.cpu_words.specs.Common.{LivesShow, CpuView, InHand, SameHand, CpuShown, Good, IsIdle, trying_in}
use Rattle.cpu_words.specs.declared.view.InHand.TheVariants.{Empty as NoEntry, Taking as TakingEntry, Giving as GivingEntry, Back as BackEntry, Trying as TryingEntry}

-- A pass is a prefix of the history: what is attached in it, and how it grows.

pub attached_on : (p zs : List Change) (e : Entry) → IsAttached p e → IsAttached (p ++ zs) e
attached_on p zs e there = ap brought_by (at_prefix p zs e.number (attached_within p e there).1) ∙ there

pub attached_prefix : (p h : List Change) (e : Entry) → IsPrefix p h → IsAttached p e → IsAttached h e
attached_prefix p h e pre there = subst (λ l. IsAttached l e) pre.1 (attached_on p pre.0 e there)

pub taken_is_prefix : (n : ℕ) (h : List Change) → IsPrefix (take n h) h
taken_is_prefix n h = (drop n h, take-append-drop n h)

-- an entry of the history is in a pass that reaches its number
pub attached_take : (h : List Change) (n : ℕ) (e : Entry) → n ≤ length h → IsAttached h e → e.number ≤ n → IsAttached (take n h) e
attached_take h n e le there reach =
    let size : length (take n h) ≡ n = length-take-le n h le in
    ap brought_by (sym (at_prefix (take n h) (drop n h) e.number (omega arith))) ∙ ap (λ l. brought_by (change_at l e.number)) (take-append-drop n h) ∙ there

pub number_within : (h : List Change) (n : ℕ) (e : Entry) → n ≤ length h → IsAttached (take n h) e → e.number ≤ n
number_within h n e le there =
    let b = (attached_within (take n h) e there).1 in
    omega (arith, length-take-le n h le)

-- a pass grows
pub attached_longer : (h : List Change) (m n : ℕ) (e : Entry) → m ≤ n → n ≤ length h → IsAttached (take m h) e → IsAttached (take n h) e
attached_longer h m n e le within there =
    let few = number_within h m e (omega arith) there in
    attached_take h n e within (attached_prefix (take m h) h e (taken_is_prefix m h) there) (omega arith)

pub prefix_longer : (h : List Change) (m n : ℕ) → m ≤ n → n ≤ length h → IsPrefix (take m h) (take n h)
prefix_longer h m n le within =
    let size : length (take n h) ≡ n = length-take-le n h within in
    subst (λ p. IsPrefix p (take n h)) (sym (ap (take m) (sym (take-append-drop n h)) ∙ take-append-le m (take n h) (drop n h) (omega arith))) (taken_is_prefix m (take n h))

pub prefix_both : {X : Type 0} (p q r : List X) → IsPrefix p q → IsPrefix q r → IsPrefix p r
prefix_both p q r first second = (first.0 ++ second.0, sym (append_assoc p first.0 second.0) ∙ (ap (λ l. l ++ second.0) first.1 ∙ second.1))

pub prefix_on : {X : Type 0} (p h zs : List X) → IsPrefix p h → IsPrefix p (h ++ zs)
prefix_on p h zs pre = (pre.0 ++ zs, sym (append_assoc p pre.0 zs) ∙ ap (λ l. l ++ zs) pre.1)

pub take_whole : (h : List Change) → take (length h) h ≡ h
take_whole h = take_all (length h) h (omega arith)

-- An entry that is in a slot

-- a number is in a slot or in none
pub occupied_or_not : (slots : List Slot) (n : ℕ) → Occupies slots n ⊎ (Occupies slots n → ⊥)
occupied_or_not slots n = from (slot_of slots n) refl
  where
    from : (o : Option ℕ) → slot_of slots n ≡ o → Occupies slots n ⊎ (Occupies slots n → ⊥)
    from None is = inr (λ there. let found = slot_found slots n there in none-some found.0 (sym is ∙ found.1))
    from (Some t) is = inl (slot_occupied slots n t is)

-- what can't be without a slot has one
pub occupies : (slots : List Slot) (n : ℕ) → ((Occupies slots n → ⊥) → ⊥) → Occupies slots n
occupies slots n off = ⊎_elim (λ (is : Occupies slots n). is) (λ (none : Occupies slots n → ⊥). absurd (off none)) (occupied_or_not slots n)

-- the slot that has an entry's number is its own
pub its_slot : (g : State) (e : Entry) → Good g → IsAttached g.history e → Occupies g.slots e.number → IsIn e (slot_at g.slots e.slot)
its_slot g e good attached has =
    let its = attached_in g.history g.slots has.0 has.1 good.holds.slots has.2 in
    let one : e ≡ has.1 = one_entry g.history e has.1 attached its.0 (sym has.3) in
    subst (λ (t : ℕ). IsIn e (slot_at g.slots t)) (sym its.1 ∙ sym (ap (λ (f : Entry). f.slot) one)) (subst (λ (f : Entry). IsIn f (slot_at g.slots has.0)) (sym one) has.2)

-- The live words stay honest as the slots change that they speak of, and as they are stored.

-- 0 says nothing
zero_honest : (n : ℕ) (x : Slot) → n ≡ 0 → is_honest n x ≡ true
zero_honest zero x none = refl
zero_honest (suc n) x none = absurd (omega arith)

-- the number of a live entry does
pub live_honest : (n : ℕ) (e : Entry) → e.number ≡ n → is_honest n (Live e) ≡ true
live_honest zero e same = refl
live_honest (suc n) e same = eq-eqb e.number (suc n) same

-- the word of a slot without a live entry is 0
dead_zero : (n : ℕ) (x : Slot) → ((e : Entry) → x ≡ Live e → ⊥) → is_honest n x ≡ true → n ≡ 0
dead_zero zero x dead test = refl
dead_zero (suc n) Vacant dead test = absurd (let q : ◌≡◌ {A = Bool} false true = test in cc)
dead_zero (suc n) (Live e) dead test = absurd (dead e refl)
dead_zero (suc n) (Retired e) dead test = absurd (let q : ◌≡◌ {A = Bool} false true = test in cc)

-- a slot changes whose word is 0
pub honest_changed : (slots : List Slot) (lives : List ℕ) (t : ℕ) (x : Slot) → live_at lives t ≡ 0 → LivesShow slots lives → LivesShow (set slots t x) lives
honest_changed slots lives t x none honest u = place_put Vacant slots t x (λ v y. is_honest (live_at lives v) y ≡ true) u (zero_honest (live_at lives t) x none) (honest u)

-- and so does one that has no live entry
pub honest_dead : (slots : List Slot) (lives : List ℕ) (t : ℕ) (y x : Slot) → slot_at slots t ≡ y → ((e : Entry) → y ≡ Live e → ⊥) → LivesShow slots lives → LivesShow (set slots t x) lives
honest_dead slots lives t y x at dead honest =
    honest_changed slots lives t x (dead_zero (live_at lives t) (slot_at slots t) (λ e live. dead e (sym at ∙ live)) (honest t)) honest

pub honest_vacant : (slots : List Slot) (lives : List ℕ) (t : ℕ) (x : Slot) → slot_at slots t ≡ Vacant → LivesShow slots lives → LivesShow (set slots t x) lives
honest_vacant slots lives t x at honest = honest_dead slots lives t Vacant x at (λ e is. let q : Vacant ≡ Live e = is in cc) honest

pub honest_retired : (slots : List Slot) (lives : List ℕ) (t : ℕ) (f : Entry) (x : Slot) → slot_at slots t ≡ Retired f → LivesShow slots lives → LivesShow (set slots t x) lives
honest_retired slots lives t f x at honest = honest_dead slots lives t (Retired f) x at (λ e is. let q : Retired f ≡ Live e = is in cc) honest

-- a word is stored
pub honest_stored : (slots : List Slot) (lives : List ℕ) (t n : ℕ) → is_honest n (slot_at slots t) ≡ true → LivesShow slots lives → LivesShow slots (set lives t n)
honest_stored slots lives t n here honest u = place_put {X = ℕ} 0 lives t n (λ v m. is_honest m (slot_at slots v) ≡ true) u here (honest u)

-- What a CPU's view tells of the core that shows it.

pub record Seen (g : State) (x : CpuView) : Type 0 where
  pub fit : Ranges g.settings
  pub seated : x.id < g.seated
  pub lt : x.id < g.settings.cpus
  pub in_section : x.id < length g.section
  pub in_begins : x.id < length g.begins
  pub in_depths : x.id < length g.depths
  pub in_seen : x.id < length g.seen
  pub in_searches : x.id < length g.searches
  pub in_found : x.id < length g.found
  pub in_hands : x.id < length g.hands
  pub settings : x.settings ≡ g.settings
  pub section : x.section ≡ section_at g x.id
  pub begin : x.begin ≡ begin_at g x.id
  pub pass : x.pass ≡ take (seen_at g x.id) g.history
  pub within : seen_at g x.id ≤ length g.history
  pub search : x.search ≡ search_at g x.id
  pub found : x.found ≡ found_at g x.id

pub seen_of : (g : State) (x : CpuView) → Good g → CpuShown g x → Seen g x
seen_of g x good had =
    let holds = good.holds in
    let lt : x.id < g.settings.cpus = omega (arith, holds.seats.within) in record {
      fit = ranges g.settings holds.fit;
      seated = had.seated;
      lt = lt;
      in_section = omega (arith, holds.shape.sections);
      in_begins = omega (arith, holds.shape.begins);
      in_depths = omega (arith, holds.shape.depths);
      in_seen = omega (arith, holds.shape.seen);
      in_searches = omega (arith, holds.shape.searches);
      in_found = omega (arith, holds.shape.found);
      in_hands = omega (arith, holds.shape.hands);
      settings = ap (λ (v : CpuView). v.settings) had.is;
      section = ap (λ (v : CpuView). v.section) had.is;
      begin = ap (λ (v : CpuView). v.begin) had.is;
      pass = ap (λ (v : CpuView). v.pass) had.is;
      within = holds.sections.prefix x.id;
      search = ap (λ (v : CpuView). v.search) had.is;
      found = ap (λ (v : CpuView). v.found) had.is;
    }

-- an entry of the CPU's pass is one of the history
pub known_attached : (g : State) (x : CpuView) (e : Entry) → Seen g x → IsAttached x.pass e → IsAttached g.history e
known_attached g x e seen there = attached_prefix x.pass g.history e (subst (λ (p : List Change). IsPrefix p g.history) (sym seen.pass) (taken_is_prefix (seen_at g x.id) g.history)) there

same_empty : (h : Hand) → SameHand h NoEntry → h ≡ Empty
same_empty Empty same = refl
same_empty h same = absurd same

pub empty_hand : (g : State) (x : CpuView) → CpuShown g x → x.hand ≡ NoEntry → hand_at g x.id ≡ Empty
empty_hand g x had is = same_empty (hand_at g x.id) (subst (SameHand (hand_at g x.id)) is had.hand)

pub idle_of : (g : State) (x : CpuView) → Seen g x → CpuShown g x → IsIdle x → is_idle g x.id ≡ true
idle_of g x seen had idle = rw (lt-ltb x.id g.seated seen.seated, sym seen.search ∙ idle.search, empty_hand g x had idle.hand) refl

-- What a CPU is trying

pub trying_here : (t : ℕ) (e : Entry) → e.slot ≡ t → trying_in t (TryingEntry e) ≡ 1
trying_here t e same = ap one_if (eq-eqb e.slot t same)

pub trying_elsewhere : (t : ℕ) (e : Entry) → (e.slot ≡ t → ⊥) → trying_in t (TryingEntry e) ≡ 0
trying_elsewhere t e off = ap one_if (ne_eqb e.slot t off)

same_trying_in : (t : ℕ) (h : Hand) (k : InHand) → SameHand h k → trying_in t k ≡ trying_of t h
same_trying_in t Empty NoEntry same = refl
same_trying_in t (Taking n) (TakingEntry e) same = refl
same_trying_in t (Giving n id) (GivingEntry e) same = refl
same_trying_in t (Back n id) (BackEntry e) same = refl
same_trying_in t (Trying u n) (TryingEntry e) same = ap (λ (k : ℕ). one_if (k == t)) (sym same.0)
same_trying_in t h k same = absurd same

-- the view's hand is trying what the core's is
pub tries : (g : State) (x : CpuView) (t : ℕ) → CpuShown g x → trying_in t x.hand ≡ trying_at g.hands x.id t
tries g x t had = same_trying_in t (hand_at g x.id) x.hand had.hand

-- an idle CPU is trying nothing
pub idle_tries : (x : CpuView) (t : ℕ) → IsIdle x → trying_in t x.hand ≡ 0
idle_tries x t idle = ap (trying_in t) idle.hand
