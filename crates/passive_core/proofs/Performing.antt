-- Sections that were seen to have ended, looks for all retired entries, and whom a turn meets where no CPU is trying for a reference.
use Rattle.std.proofs.Common.{◌≡◌, ℕ, ◌+◌, ◌%◌, ◌<◌, inr, List, length, get_or, set, Option, Some, None, Bool, true, false, not, ◌&&◌, ◌||◌, ◌==◌, refl, sym, ap, subst, ◌∙◌, arith, get_or-set_same, get_or-set_other, ◌-◌, nat_lt, Ok}
use Rattle.std.specs.Prelude.{is_some}
use Rattle.std.proofs.lemmas.Bool.{cases_eq, eq-eqb}
use Rattle.std.proofs.lemmas.Option.{same_Some}
use Rattle.passive_core.specs.Types.{Entry, Mark, Slot, Vacant, Retired, Stage}
use Rattle.registry_values.specs.Common.{is_retired_as, retired_slot, retired_number, is_retired, slot_at, least_below, is_out, no_mark, stage_of}
use Rattle.registry_values.specs.Answers as stages
use Rattle.registry_values.proofs.Slots.{none_below, retired_slot_tells, least_agrees}
use Rattle.protocol.specs.Common.{AllPassed, is_inside, Holds, State, begin_at, mark_at, section_at, held_at, passive_at, passive_in, trying_at}
use Rattle.protocol.proofs.Cells.{position_passes, slot_number}
use Rattle.protocol.proofs.Occupied.{in_within, one_number}
use Rattle.protocol.proofs.Either.{either}
use Rattle.passive_core.specs.Common.{MarksPass, Passes, is_open_since, is_snapshot, AllOutside, OnlyPasses, advance_answer, first_obstacle, has_passive, plain_obstacle, plain_stage, refers_to, stage_in}
use Rattle.passive_core.proofs.Advancing.{only_marks, passes_none, clear_none, unclear_some}

-- A word that hasn't changed is out of its section exactly where the CPU is outside.

out_shown : (w : ℕ) (begin : Option ℕ) → (begin ≡ None → w % 2 ≡ 0) → ((b : ℕ) → begin ≡ Some b → w % 2 ≡ 1) → is_out w w ≡ not (is_some begin)
out_shown w None outside inside = ap (λ (b : Bool). b || not (w == w)) (eq-eqb (w % 2) 0 (outside refl))
out_shown w (Some b) outside inside = rw (ap (λ (k : ℕ). k == 0) (inside b refl), eq-eqb w w refl) refl

pub seen_out : (s : State) (c : ℕ) → Holds s → is_out (section_at s c) (section_at s c) ≡ not (is_inside s c)
seen_out s c on = out_shown (section_at s c) (begin_at s c) (λ out. (on.sections.outside c out).0) (λ b in_. (on.sections.inside c b in_).0)

pub sound_out : (a b : Bool) → a ≡ not b → a ≡ true → b ≡ false
sound_out a false same is = refl
sound_out a true same is = absurd (let q : ◌≡◌ {A = Bool} false true = sym same ∙ is in cc)

pub not_not : (a b : Bool) → a ≡ not b → not a ≡ b
not_not a true same = ap not same
not_not a false same = ap not same

-- a place of a row that was written
pub written_below : {X : Type 0} (d : X) (P : ℕ → X → Type 0) (xs : List X) (i : ℕ) (x : X) → i < length xs → ((k : ℕ) → k < i → P k (get_or xs k d)) → P i x → (k : ℕ) → k < i + 1
    → P k (get_or (set xs i x) k d)
written_below d P xs i x lt below here k le = either (cases_eq k i)
    (λ same. subst (λ (j : ℕ). P j (get_or (set xs i x) j d)) (sym same) (subst (P i) (sym (get_or-set_same xs i x d lt)) here))
    (λ off. subst (P k) (sym (get_or-set_other xs i k x d off)) (below k (omega (arith, le, off))))

pub written_each : {X : Type 0} (d : X) (P : ℕ → X → Type 0) (xs : List X) (i : ℕ) (x : X) → i < length xs → ((k : ℕ) → P k (get_or xs k d)) → P i x → (k : ℕ) → P k (get_or (set xs i x) k d)
written_each d P xs i x lt each here k = either (cases_eq k i)
    (λ same. subst (λ (j : ℕ). P j (get_or (set xs i x) j d)) (sym same) (subst (P i) (sym (get_or-set_same xs i x d lt)) here))
    (λ off. subst (P k) (sym (get_or-set_other xs i k x d off)) (each k))

-- No section is open: each look passes.

pub none_open : (s : State) (t : ℕ) → AllOutside s → least_below (is_open_since s t) s.settings.cpus ≡ None
none_open s t outside = none_below (is_open_since s t) s.settings.cpus (λ c lt. ap (λ (b : Bool). b && is_snapshot (mark_at s.marks t c).snapshot (section_at s c)) (outside c lt))

-- Marks that come to say passed

pub only_more : (s m n : State) → OnlyPasses s m → OnlyPasses m n → OnlyPasses s n
only_more s m n x y = record {
  only = only_marks s m n x.only y.only;
  marks = λ t c. record {
    snapshot = (y.marks t c).snapshot ∙ (x.marks t c).snapshot;
    passed = λ p. (y.marks t c).passed ((x.marks t c).passed p);
    clear = (y.marks t c).clear ∙ (x.marks t c).clear;
    collected = (y.marks t c).collected ∙ (x.marks t c).collected;
  };
  elsewhere = λ t is. y.elsewhere t (ap (λ (z : State). is_retired (slot_at z.slots t)) x.only ∙ is) ∙ x.elsewhere t is;
}

pub only_one : (s n : State) (t : ℕ) → is_retired (slot_at s.slots t) ≡ true → n ≡ record s { marks = n.marks } → MarksPass s.marks n.marks t → OnlyPasses s n
only_one s n t gone only marks = record {
  only = only;
  marks = λ u c. either (cases_eq u t)
      (λ same. subst (λ (k : ℕ). Passes (mark_at s.marks k c) (mark_at n.marks k c)) (sym same) (marks.here c))
      (λ off. subst (λ (r : List Mark). Passes (mark_at s.marks u c) (get_or r c no_mark)) (sym (marks.elsewhere u off)) (passes_none (mark_at s.marks u c)));
  elsewhere = λ u is. marks.elsewhere u (λ same. let q : ◌≡◌ {A = Bool} true false = sym gone ∙ (ap (λ (k : ℕ). is_retired (slot_at s.slots k)) (sym same) ∙ is) in cc);
}

pub still_passed : (s n : State) (t : ℕ) → OnlyPasses s n → AllPassed s t → AllPassed n t
still_passed s n t only passed c lt = (only.marks t c).passed (passed c (subst (λ (z : State). c < z.settings.cpus) only.only lt))

-- the slot of a retired entry's number is its own
retired_is : (n : ℕ) (x : Slot) → is_retired x ≡ true → Some n ≡ retired_number x → (e : Entry) × (x ≡ Retired e) × (e.number ≡ n)
retired_is n (Retired e) gone is = (e, refl, sym (same_Some n e.number is))
retired_is n _ gone is = absurd (let q : ◌≡◌ {A = Bool} false true = gone in cc)

pub retired_found : (s : State) (t n : ℕ) → Holds s → is_retired (slot_at s.slots t) ≡ true → Some n ≡ retired_number (slot_at s.slots t) → retired_slot s.slots n ≡ Some t
retired_found s t n on gone is =
    let e = retired_is n (slot_at s.slots t) gone is in
    let i = position_passes (is_retired_as n) s.slots t Vacant (in_within s.slots t e.0 (inr e.1)) (ap (is_retired_as n) e.1 ∙ eq-eqb e.0.number n e.2) in
    let f = retired_slot_tells s.slots n i.0 i.1 in
    let one : (i.0 ≡ t) × (f.1.0 ≡ e.0) = one_number s.history s.slots t i.0 e.0 f.1.0 on.slots (inr e.1) (inr f.1.1) (f.1.2 ∙ sym e.2) in
    i.1 ∙ ap (λ (k : ℕ). Some k) one.0

-- Where no hand tries to get a reference, a turn meets who holds the entry.

-- where a CPU is clear if its word is 0, the word says whether it has a passive reference
pub counts_some : (w : ℕ) (clear : Bool) → (clear ≡ true → w ≡ 0) → (nat_lt 0 w && not clear) ≡ nat_lt 0 w
counts_some w true none = clear_none (nat_lt 0 w) true refl ∙ sym (ap (nat_lt 0) (none refl))
counts_some w false none = unclear_some (nat_lt 0 w) false refl

pub refers : (s : State) (t c : ℕ) (e : Entry) → Holds s → trying_at s.hands c t ≡ 0 → slot_at s.slots t ≡ Retired e → has_passive s t c ≡ refers_to s e.number c
refers s t c e on untried gone =
    let word : passive_at s.passive c t - trying_at s.hands c t ≡ passive_at s.passive c t = omega (arith, untried) in
    counts_some (passive_at s.passive c t) (mark_at s.marks t c).clear (λ clear. (on.passive.clear c t e gone clear).1 ∙ untried)
    ∙ ap (nat_lt 0) (sym (ap (passive_in s.passive s.hands c) (slot_number s.history s.slots e t on.slots (inr gone)) ∙ word))

plain_in : (s : State) (n : ℕ) (o : Option ℕ) → Holds s → ((c t : ℕ) → trying_at s.hands c t ≡ 0) → retired_slot s.slots n ≡ o → stage_in s n o ≡ stages.stage_in (plain_obstacle s n) o
plain_in s n None on untried at = refl
plain_in s n (Some t) on untried at =
    let told = retired_slot_tells s.slots n t at in
    let same : least_below (has_passive s t) s.settings.cpus ≡ least_below (refers_to s told.1.0.number) s.settings.cpus =
    least_agrees (has_passive s t) (refers_to s told.1.0.number) s.settings.cpus (λ c lt. refers s t c told.1.0 on (untried c t) told.1.1) in
    ap (λ (x : Stage). Ok x) (subst (λ (k : ℕ). first_obstacle s t k ≡ plain_obstacle s k t) told.1.2
    (ap (λ (p : Option ℕ). stage_of t (least_below (is_open_since s t) s.settings.cpus) p (held_at s.locals s.hands s.keeps s.due told.1.0.number t)) same))

pub plain_is : (s : State) (n : ℕ) → Holds s → ((c t : ℕ) → trying_at s.hands c t ≡ 0) → advance_answer s n ≡ plain_stage s n
plain_is s n on untried = plain_in s n (retired_slot s.slots n) on untried refl
