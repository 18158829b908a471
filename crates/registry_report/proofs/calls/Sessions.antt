-- What keeps the labels of a session right.
use Rattle.std.proofs.Common.{◌≡◌, ℕ, ◌<◌, ◌⊎◌, inl, inr, zero, suc, List, length, replicate, Bool, true, false, Option, Some, None, if◌then◌else◌, refl, sym, ap, ◌∙◌, arith, length-set}
use Rattle.std.proofs.Common.{get_or-set_same, get_or-set_other, Ok, subst}
use Rattle.std.specs.Prelude.{is_some, slice_index_or, slice_set}
use Rattle.std.proofs.lemmas.Bool.{cases_eq}
use Rattle.registry_report.specs.Types.{Entry, LocalPlace, Free, Standing}
use Rattle.protocol.specs.Common.{at_rest, State, found_at, local_at, after_exit, least_id, number_standing, with_link_past, with_local, Holds}
use Rattle.registry_values.specs.Common.{slot_before}
use Rattle.passive_core.specs.Common.{IsQuiet, all_seated, may_act, with_detached, with_depth, after_counting, count_refusal, is_live_local, local_slot, with_count_less, with_total_less}
use Rattle.passive_core.proofs.Locals.{live_slot, slot_is}
use Rattle.passive_core.proofs.Passives.{found_slot}
use Rattle.protocol.proofs.keeps.References.{least_free, least_stays, least_within, with_local_same}
use Rattle.registry_report.specs.Common.{SessionState, IsSession, label_answer}
use Rattle.protocol.proofs.Either.{either}

-- a CPU that the session's value knows is one of the session's
pub cpu_known : (s v : SessionState) (c : ℕ) → s ≡ v → c < v.core.settings.cpus → c < s.core.settings.cpus
cpu_known s v c view lt = subst (λ (x : SessionState). c < x.core.settings.cpus) (sym view) lt

-- What the core's commands leave of the places of local references

unlinking_keeps : (s : State) (t : ℕ) (o : Option ℕ) → (with_link_past s t o).locals ≡ s.locals
unlinking_keeps s t None = refl
unlinking_keeps s t (Some p) = refl

pub detached_locals : (s : State) (c : ℕ) (e : Entry) → (with_detached s c e).locals ≡ s.locals
detached_locals s c e = unlinking_keeps (all_seated s) e.slot (slot_before (all_seated s).slots (all_seated s).next e.slot)

pub exited_locals : (s : State) (c depth : ℕ) (b : Bool) → (if b then after_exit (all_seated s) c else with_depth s c depth).locals ≡ s.locals
exited_locals s c depth true = refl
exited_locals s c depth false = refl

released_at : (s : State) (c id t : ℕ) (b : Bool) → (if b then with_count_less (all_seated s) c id (Some t) else with_total_less (all_seated s) id (Some t)).locals ≡ slice_set s.locals id Free
released_at s c id t true = refl
released_at s c id t false = refl

pub released_locals : (s : State) (c id n : ℕ) (b : Bool) → Holds s → number_standing (local_at s.locals id) ≡ Some n
    → (if b then with_count_less (all_seated s) c id (local_slot s id) else with_total_less (all_seated s) id (local_slot s id)).locals ≡ slice_set s.locals id Free
released_locals s c id n b on live =
    let t = live_slot s id n on live in
    rw (slot_is s id n t.0 live t.1) (released_at s c id t.0 b)

counted_at : (s : State) (c : ℕ) (o : Option Entry) → Holds s → found_at s c ≡ o → count_refusal s c o ≡ None
    → (n : ℕ) × ((after_counting s c o).locals ≡ with_local s.locals (least_id s.locals) (Standing n))
counted_at s c None on is h = let no : ⊥ = cc in absurd no
counted_at s c (Some e) on is h = let t = found_slot s c e on is in (e.number, rw t.1 refl)

pub counted_locals : (s : State) (c : ℕ) → Holds s → count_refusal s c (found_at s c) ≡ None
    → (n : ℕ) × ((after_counting s c (found_at s c)).locals ≡ with_local s.locals (least_id s.locals) (Standing n))
counted_locals s c on h = counted_at s c (found_at s c) on refl h

-- Sessions

pub live_place : (p : LocalPlace) → is_some (number_standing p) ≡ true → (n : ℕ) × (p ≡ Standing n)
live_place (Standing n) h = (n, refl)
live_place _ h = let no : ⊥ = cc in absurd no

same_else : {X : Type 0} (d : X) (n x : ℕ) → slice_index_or (replicate n d) x d ≡ d
same_else d zero x = refl
same_else d (suc n) zero = refl
same_else d (suc n) (suc x) = same_else d n x

-- the reference of a filled label
pub filled_tells : {X : Type 0} (o : Option X) (x : X) → Ok x ≡ label_answer o → o ≡ Some x
filled_tells None x h = let no : ⊥ = cc in absurd no
filled_tells (Some y) x h = cc

-- no label has a reference
pub unlabelled_holds : (core : State) → IsQuiet core → Holds core → IsSession (record { core = core; passives = replicate 26 None; locals = replicate 26 None })
unlabelled_holds core quiet holds = record {
  quiet = quiet;
  holds = holds;
  passive_labels = refl;
  local_labels = refl;
  live = λ x id at. let none : slice_index_or (replicate 26 None) x None ≡ None = same_else {X = Option ℕ} None 26 x in let no : ⊥ = cc in absurd no;
  apart = λ x y id at and. let none : slice_index_or (replicate 26 None) x None ≡ None = same_else {X = Option ℕ} None 26 x in let no : ⊥ = cc in absurd no;
}

-- what every command leaves of the core
pub record Stays (old new : State) : Type 0 where
  pub rest : at_rest new.due ≡ true
  pub ready : (d : ℕ) → may_act old d ≡ true → may_act new d ≡ true
  pub holds : Holds new

quiet_still : (old new : State) → Stays old new → IsQuiet old → IsQuiet new
quiet_still old new stays quiet = record { rest = stays.rest; ready = λ d. stays.ready d (quiet.ready d) }

-- the places of local references are as they were
pub same_places : (s : SessionState) (core : State) → IsSession s → Stays s.core core → core.locals ≡ s.core.locals → IsSession (record { core = core; passives = s.passives; locals = s.locals })
same_places s core on stays same = record {
  quiet = quiet_still s.core core stays on.quiet;
  holds = stays.holds;
  passive_labels = on.passive_labels;
  local_labels = on.local_labels;
  live = λ x id at. ap (λ (l : List LocalPlace). is_some (number_standing (local_at l id))) same ∙ on.live x id at;
  apart = on.apart;
}

-- what is at the label that was written, or at another
label_cases : (labels : List (Option ℕ)) (x y : ℕ) (o : Option ℕ) → x < length labels
    → ((y ≡ x) × (slice_index_or (slice_set labels x o) y None ≡ o)) ⊎ ((y ≡ x → ⊥) × (slice_index_or (slice_set labels x o) y None ≡ slice_index_or labels y None))
label_cases labels x y o below = either (cases_eq y x)
    (λ same. inl (same, rw same (get_or-set_same labels x o None below)))
    (λ off. inr (off, get_or-set_other labels x y o None off))

-- at a label that was emptied stands nothing
emptied : (labels : List (Option ℕ)) (x y id : ℕ) → x < length labels → slice_index_or (slice_set labels x None) y None ≡ Some id → (y ≡ x → ⊥) × (slice_index_or labels y None ≡ Some id)
emptied labels x y id below at = either (label_cases labels x y None below) (λ here. let none = here.1 in let no : ⊥ = cc in absurd no) (λ off. (off.0, sym off.1 ∙ at))

-- the label's reference was given up
pub given_up : (s : SessionState) (core : State) (x id : ℕ) → IsSession s → Stays s.core core → x < 26 → slice_index_or s.locals x None ≡ Some id → core.locals ≡ slice_set s.core.locals id Free
    → IsSession (record { core = core; passives = s.passives; locals = slice_set s.locals x None })
given_up s core x id on stays low stood is =
    let below : x < length s.locals = omega (arith, low, on.local_labels) in
    record {
      quiet = quiet_still s.core core stays on.quiet;
      holds = stays.holds;
      passive_labels = on.passive_labels;
      local_labels = length-set s.locals x None ∙ on.local_labels;
      live = λ y j at.
          let was = emptied s.locals x y j below at in
          ap (λ (l : List LocalPlace). is_some (number_standing (local_at l j))) is
          ∙ (ap (λ (p : LocalPlace). is_some (number_standing p)) (get_or-set_other s.core.locals id j Free Free (λ same. was.0 (on.apart y x id (was.1 ∙ ap Some same) stood)))
          ∙ on.live y j was.1);
      apart = λ y z j at and. on.apart y z j (emptied s.locals x y j below at).1 (emptied s.locals x z j below and).1;
    }

-- a new reference is at the lowest id, and nothing was there
free_dies : (s : SessionState) (y id : ℕ) → IsSession s → id ≡ least_id s.core.locals → slice_index_or s.locals y None ≡ Some id → ⊥
free_dies s y id on least at =
    let p = live_place (local_at s.core.locals id) (on.live y id at) in
    let free : local_at s.core.locals id ≡ Free = ap (local_at s.core.locals) least ∙ least_free s.core.locals in
    let q : Free ≡ Standing p.0 = sym free ∙ p.1 in
    cc

some_same : (i j : ℕ) → Some i ≡ Some j → i ≡ j
some_same i j e = cc

live_at : (s : State) (id j n : ℕ) → id ≡ j → local_at s.locals id ≡ Standing n → is_live_local s j ≡ true
live_at s id j n same at = ap (λ (k : ℕ). is_some (number_standing (local_at s.locals k))) (sym same) ∙ ap (λ (p : LocalPlace). is_some (number_standing p)) at

pub new_place : (s : SessionState) (core : State) (id n : ℕ) → id ≡ least_id s.core.locals → core.locals ≡ with_local s.core.locals (least_id s.core.locals) (Standing n)
    → local_at core.locals id ≡ Standing n
new_place s core id n least is = ap (λ (l : List LocalPlace). local_at l id) is
    ∙ (ap (local_at (with_local s.core.locals (least_id s.core.locals) (Standing n))) least ∙ with_local_same s.core.locals (least_id s.core.locals) (Standing n) (least_within s.core.locals))

pub new_live : (s : SessionState) (core : State) (id n : ℕ) → id ≡ least_id s.core.locals → core.locals ≡ with_local s.core.locals (least_id s.core.locals) (Standing n) → is_live_local core id ≡ true
new_live s core id n least is = live_at core id id n refl (new_place s core id n least is)

-- the label names a new reference
pub taken_up : (s : SessionState) (core : State) (x id n : ℕ) → IsSession s → Stays s.core core → x < 26 → id ≡ least_id s.core.locals
    → core.locals ≡ with_local s.core.locals (least_id s.core.locals) (Standing n)
    → IsSession (record { core = core; passives = s.passives; locals = slice_set s.locals x (Some id) })
taken_up s core x id n on stays low least is =
    let below : x < length s.locals = omega (arith, low, on.local_labels) in
    record {
      quiet = quiet_still s.core core stays on.quiet;
      holds = stays.holds;
      passive_labels = on.passive_labels;
      local_labels = length-set s.locals x (Some id) ∙ on.local_labels;
      live = λ y j at. either (label_cases s.locals x y (Some id) below)
          (λ here. live_at core id j n (some_same id j (sym here.1 ∙ at)) (new_place s core id n least is))
          (λ off.
          let p = live_place (local_at s.core.locals j) (on.live y j (sym off.1 ∙ at)) in
          live_at core j j p.0 refl (ap (λ (l : List LocalPlace). local_at l j) is ∙ least_stays s.core.locals (Standing n) (Standing p.0) j (λ same. let q : Free ≡ Standing p.0 = same in cc) p.1));
      apart = λ y z j at and. either (label_cases s.locals x y (Some id) below)
          (λ here. either (label_cases s.locals x z (Some id) below)
          (λ there. here.0 ∙ sym there.0)
          (λ far.
          absurd (free_dies s z j on (sym (some_same id j (sym here.1 ∙ at)) ∙ least) (sym far.1 ∙ and))))
          (λ off. either (label_cases s.locals x z (Some id) below)
          (λ there.
          absurd (free_dies s y j on (sym (some_same id j (sym there.1 ∙ and)) ∙ least) (sym off.1 ∙ at)))
          (λ far. on.apart y z j (sym off.1 ∙ at) (sym far.1 ∙ and)));
    }
