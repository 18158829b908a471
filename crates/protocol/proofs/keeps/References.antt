-- Each event keeps what is so of local references: places, hands, and what the keeper must do next.
use Rattle.std.proofs.Common.{◌≡◌, ℕ, ◌+◌, ◌<◌, ◌≤◌, ◌⊎◌, inl, List, [], length, get_or, set, replicate, nat_lt, if◌then◌else◌, true, Option, Some, position, refl, sym, ap, subst, ◌∙◌, arith, get_or-set_same, get_or-set_other}
use Rattle.std.proofs.lemmas.List.{get_or_past, get_or_append_left, get_or_push, length_push}
use Rattle.std.proofs.lemmas.List.Quantifiers.{position-Some}
use Rattle.std.proofs.lemmas.Bool.{cases_lt, cases_eq, and_parts, eqb-true, cond_both, ltb-true, ltb-false}
use Rattle.protocol.specs.Types.{Entry, Slot, Vacant, Live, Retired}
use Rattle.protocol.specs.Common.{Search, Hand, Empty, Taking, Giving, Back, LocalPlace, Free, Standing, Lifted, Due, Rest, Snapshots, Adding, Subtracting, local_at, is_snapshot_due, number_standing, is_free, id_if, least_id, with_local, Occupies, held_at, HandHolds, DueHolds, ReferencesHold, SeatsShow}
use Rattle.registry_values.specs.Common.{slot_at}
use Rattle.protocol.proofs.Occupied.{place_within, written_cases, in_within, occupies_publish, occupies_unpublish, occupies_vacate, retired_other}
use Rattle.protocol.proofs.counts.Sums.{number_of, Unreferred, unreferred}
use Rattle.protocol.proofs.Cells.{get_or_all, place_in}
use Rattle.protocol.proofs.Either.{either}

-- What a hand holds.

pub giving_holds : (cpus : ℕ) (slots : List Slot) (hands : List Hand) (due : Due) (locals : List LocalPlace) (c n id : ℕ) → get_or hands c Empty ≡ Giving n id
    → ReferencesHold cpus slots hands due locals → Occupies slots n × (local_at locals id ≡ Lifted c)
giving_holds cpus slots hands due locals c n id hand refer = subst (HandHolds slots locals c) hand (refer.in_hands c)

pub back_holds : (cpus : ℕ) (slots : List Slot) (hands : List Hand) (due : Due) (locals : List LocalPlace) (c n id : ℕ) → get_or hands c Empty ≡ Back n id → ReferencesHold cpus slots hands due locals
    → Occupies slots n × (local_at locals id ≡ Lifted c)
back_holds cpus slots hands due locals c n id hand refer = subst (HandHolds slots locals c) hand (refer.in_hands c)

-- and what is due
pub due_adding : (cpus : ℕ) (slots : List Slot) (hands : List Hand) (due : Due) (locals : List LocalPlace) (t old : ℕ) → due ≡ Adding t old → ReferencesHold cpus slots hands due locals
    → (e : Entry) × (slot_at slots t ≡ Retired e)
due_adding cpus slots hands due locals t old is refer = subst (DueHolds cpus slots) is refer.due_at

pub due_subtracting : (cpus : ℕ) (slots : List Slot) (hands : List Hand) (due : Due) (locals : List LocalPlace) (t : ℕ) → due ≡ Subtracting t → ReferencesHold cpus slots hands due locals
    → (e : Entry) × (slot_at slots t ≡ Retired e)
due_subtracting cpus slots hands due locals t is refer = subst (DueHolds cpus slots) is refer.due_at

-- Slots change, places and hands stay.

hand_slots : (slots others : List Slot) (locals : List LocalPlace) (c : ℕ) (h : Hand) → ((n : ℕ) → number_of h ≡ Some n → Occupies slots n → Occupies others n) → HandHolds slots locals c h
    → HandHolds others locals c h
hand_slots slots others locals c h stays holds = grind arith

-- what the keeper must do next is at a slot that isn't written
due_slots : (cpus : ℕ) (slots others : List Slot) (due : Due) → ((u : ℕ) (e : Entry) → slot_at slots u ≡ Retired e → slot_at others u ≡ Retired e) → DueHolds cpus slots due → DueHolds cpus others due
due_slots cpus slots others due stays holds = grind arith

module _ {cpus : ℕ} {slots : List Slot} {hands : List Hand} {due : Due} {locals : List LocalPlace} (refer : ReferencesHold cpus slots hands due locals) where
  -- the numbers that places and hands name stay occupied
  references_slots : (others : List Slot) (next_due : Due) → ((id n : ℕ) → local_at locals id ≡ Standing n → Occupies slots n → Occupies others n)
      → ((c n : ℕ) → number_of (get_or hands c Empty) ≡ Some n → Occupies slots n → Occupies others n) → DueHolds cpus others next_due → ReferencesHold cpus others hands next_due locals
  references_slots others next_due placed handed now = record {
    standing = λ id n at. placed id n at (refer.standing id n at);
    in_hands = λ c. hand_slots slots others locals c (get_or hands c Empty) (handed c) (refer.in_hands c);
    due_at = now;
  }

  pub references_publish : (t : ℕ) (e : Entry) → t < length slots → slot_at slots t ≡ Vacant → ReferencesHold cpus (set slots t (Live e)) hands due locals
  references_publish t e lt vacant = references_slots (set slots t (Live e)) due
      (λ id n at. occupies_publish slots t (Live e) n lt vacant) (λ c n named. occupies_publish slots t (Live e) n lt vacant)
      (due_slots cpus slots _ due (λ u f at. retired_other slots t u (Live e) f at (λ same. let q : Retired f ≡ Vacant = sym at ∙ (ap (slot_at slots) same ∙ vacant) in cc)) refer.due_at)

  pub references_unpublish : (t : ℕ) (e : Entry) → 0 < cpus → slot_at slots t ≡ Live e → ReferencesHold cpus (set slots t (Retired e)) hands (Snapshots t 0) locals
  references_unpublish t e some at = references_slots (set slots t (Retired e)) (Snapshots t 0)
      (λ id n is. occupies_unpublish slots t e n at) (λ c n named. occupies_unpublish slots t e n at)
      (some, (e, get_or-set_same slots t (Retired e) Vacant (in_within slots t e (inl at))))

  pub references_snapshot : (t c : ℕ) → due ≡ Snapshots t c → ReferencesHold cpus slots hands (if nat_lt (c + 1) cpus then Snapshots t (c + 1) else Rest) locals
  references_snapshot t c is = grind (arith, cond_both, ltb-true)

  -- nothing refers to the entry whose slot becomes vacant
  pub references_vacate : (keeps : List (Option ℕ)) (t : ℕ) (e : Entry) → slot_at slots t ≡ Retired e → due ≡ Rest → held_at locals hands keeps due e.number t ≡ 0
      → ReferencesHold cpus (set slots t Vacant) hands due locals
  references_vacate keeps t e at rest none =
      let free : Unreferred locals hands keeps e.number = unreferred locals hands keeps due e.number t none in
      references_slots (set slots t Vacant) due
      (λ id n is. occupies_vacate slots t e n at (λ same. free.unplaced id (is ∙ ap Standing same)))
      (λ c n named. occupies_vacate slots t e n at (λ same. free.unhanded c (named ∙ ap Some same)))
      (subst (DueHolds cpus (set slots t Vacant)) (sym rest) tt)

pub snapshot_due_tells : (due : Due) (t c : ℕ) → is_snapshot_due due t c ≡ true → due ≡ Snapshots t c
snapshot_due_tells due t c test = grind (arith, and_parts, eqb-true)

-- Places and hands change, slots stay.

-- the places that any CPU has lifted stay
abbrev pub KeepsLifted : List LocalPlace → List LocalPlace → Type 0
KeepsLifted locals others = (d id : ℕ) → local_at locals id ≡ Lifted d → local_at others id ≡ Lifted d

hand_places : (slots : List Slot) (locals others : List LocalPlace) (c : ℕ) (h : Hand) → ((id : ℕ) → local_at locals id ≡ Lifted c → local_at others id ≡ Lifted c) → HandHolds slots locals c h
    → HandHolds slots others c h
hand_places slots locals others c h stays holds = grind arith

-- places change that no hand has lifted
pub references_places : (cpus : ℕ) (slots : List Slot) (hands : List Hand) (due next_due : Due) (locals others : List LocalPlace)
    → ((id n : ℕ) → local_at others id ≡ Standing n → Occupies slots n) → KeepsLifted locals others → DueHolds cpus slots next_due
    → ReferencesHold cpus slots hands due locals → ReferencesHold cpus slots hands next_due others
references_places cpus slots hands due next_due locals others placed leaves now refer = grind (arith, hand_places)

-- One place is written.

-- a place that stands after a write is the one written, or stood before
standing_set : (slots : List Slot) (locals : List LocalPlace) (id : ℕ) (p : LocalPlace) → ((n : ℕ) → p ≡ Standing n → Occupies slots n)
    → ((j n : ℕ) → local_at locals j ≡ Standing n → Occupies slots n)
    → (j n : ℕ) → local_at (set locals id p) j ≡ Standing n → Occupies slots n
standing_set slots locals id p new old j n at = either (written_cases Free locals id p j) (λ here. new n (sym here.1 ∙ at)) (λ off. old j n (sym off.1 ∙ at))

-- a place that the CPU d hasn't lifted is written
lifted_stays : (locals : List LocalPlace) (id d j : ℕ) (p : LocalPlace) → (local_at locals id ≡ Lifted d → ⊥) → local_at locals j ≡ Lifted d → local_at (set locals id p) j ≡ Lifted d
lifted_stays locals id d j p free at = get_or-set_other locals id j p Free (λ same. free (ap (local_at locals) (sym same) ∙ at)) ∙ at

standing_unlifted : (locals : List LocalPlace) (id n d : ℕ) → local_at locals id ≡ Standing n → local_at locals id ≡ Lifted d → ⊥
standing_unlifted locals id n d at lifted = let q : Standing n ≡ Lifted d = sym at ∙ lifted in cc

lifted_once : (locals : List LocalPlace) (id c d : ℕ) → local_at locals id ≡ Lifted c → (d ≡ c → ⊥) → local_at locals id ≡ Lifted d → ⊥
lifted_once locals id c d at off lifted = off (let q : Lifted d ≡ Lifted c = sym lifted ∙ at in cc)

-- a place becomes free
free_set : (slots : List Slot) (locals : List LocalPlace) (id : ℕ) → ((j n : ℕ) → local_at locals j ≡ Standing n → Occupies slots n)
    → (j n : ℕ) → local_at (set locals id Free) j ≡ Standing n → Occupies slots n
free_set slots locals id = standing_set slots locals id Free (λ n same. absurd (let q : Free ≡ Standing n = same in cc))

stands_still : (slots : List Slot) (m n : ℕ) → Occupies slots m → Standing m ≡ Standing n → Occupies slots n
stands_still slots m n is same = subst (Occupies slots) (let q : Standing m ≡ Standing n = same in cc) is

-- the lowest id that is free
free_tells : (p : LocalPlace) → is_free p ≡ true → p ≡ Free
free_tells p test = grind arith

id_free : (locals : List LocalPlace) (found : Option ℕ) → position is_free locals ≡ found → (id_if locals found ≤ length locals) × (local_at locals (id_if locals found) ≡ Free)
id_free locals found is = grind (arith, get_or_past, position-Some, free_tells)

pub least_within : (locals : List LocalPlace) → least_id locals ≤ length locals
least_within locals = (id_free locals (position is_free locals) refl).0

pub least_free : (locals : List LocalPlace) → local_at locals (least_id locals) ≡ Free
least_free locals = (id_free locals (position is_free locals) refl).1

pub with_local_same : (locals : List LocalPlace) (id : ℕ) (p : LocalPlace) → id ≤ length locals → local_at (with_local locals id p) id ≡ p
with_local_same locals id p le = grind (arith, cond_both, get_or-set_same, ltb-true, get_or_push, ltb-false)

pub with_local_other : (locals : List LocalPlace) (id : ℕ) (p : LocalPlace) (j : ℕ) → id ≤ length locals → (j ≡ id → ⊥) → local_at (with_local locals id p) j ≡ local_at locals j
with_local_other locals id p j le off = grind (arith, cond_both, get_or-set_other, get_or_append_left, ltb-false, get_or_past, length_push)

pub local_cases : (locals : List LocalPlace) (id : ℕ) (p : LocalPlace) (j : ℕ) → id ≤ length locals
    → ((j ≡ id) × (local_at (with_local locals id p) j ≡ p)) ⊎ ((j ≡ id → ⊥) × (local_at (with_local locals id p) j ≡ local_at locals j))
local_cases locals id p j le = grind (arith, with_local_same, with_local_other, cases_eq j id)

-- a place that was not free stays where another is written at the lowest id
pub least_stays : (locals : List LocalPlace) (p q : LocalPlace) (j : ℕ) → (Free ≡ q → ⊥) → local_at locals j ≡ q → local_at (with_local locals (least_id locals) p) j ≡ q
least_stays locals p q j off at = with_local_other locals (least_id locals) p j (least_within locals) (λ same. off (sym (least_free locals) ∙ (ap (local_at locals) (sym same) ∙ at))) ∙ at

-- Events by CPUs

module _ {cpus : ℕ} {slots : List Slot} {hands : List Hand} {due : Due} {locals : List LocalPlace} (refer : ReferencesHold cpus slots hands due locals) where
  -- a hand changes, and places that no other hand has lifted
  references_hand : (others : List LocalPlace) (c : ℕ) (h : Hand) → c < length hands → ((id n : ℕ) → local_at others id ≡ Standing n → Occupies slots n)
      → ((d id : ℕ) → (d ≡ c → ⊥) → local_at locals id ≡ Lifted d → local_at others id ≡ Lifted d) → HandHolds slots others c h → ReferencesHold cpus slots (set hands c h) due others
  references_hand others c h lt placed leaves holds = record {
    standing = placed;
    in_hands = λ d. place_in Empty hands c h (HandHolds slots others) d lt holds
        (λ off. hand_places slots locals others d (get_or hands d Empty) (λ id at. leaves d id off at) (refer.in_hands d));
    due_at = refer.due_at;
  }

  -- a hand is written, and places stay
  pub references_unheld : (c : ℕ) (h : Hand) → c < length hands → HandHolds slots locals c h → ReferencesHold cpus slots (set hands c h) due locals
  references_unheld c h lt holds = references_hand locals c h lt refer.standing (λ d id off at. at) holds

  pub references_split : (c n : ℕ) → c < length hands → get_or hands c Empty ≡ Taking n → ReferencesHold cpus slots (set hands c Empty) due (with_local locals (least_id locals) (Standing n))
  references_split c n lt hand = references_hand (with_local locals (least_id locals) (Standing n)) c Empty lt
      (λ j m at. either (local_cases locals (least_id locals) (Standing n) j (least_within locals))
      (λ here. stands_still slots n m (subst (HandHolds slots locals c) hand (refer.in_hands c)) (sym here.1 ∙ at))
      (λ off. refer.standing j m (sym off.1 ∙ at)))
      (λ d id off at. least_stays locals (Standing n) (Lifted d) id (λ same. let q : Free ≡ Lifted d = same in cc) at)
      tt

  pub references_join : (c n id : ℕ) → c < length hands → local_at locals id ≡ Standing n → ReferencesHold cpus slots (set hands c (Giving n id)) due (set locals id (Lifted c))
  references_join c n id lt at =
      let within : id < length locals = place_within Free locals id (λ free. let q : Standing n ≡ Free = sym at ∙ free in cc) in
      references_hand (set locals id (Lifted c)) c (Giving n id) lt
      (standing_set slots locals id (Lifted c) (λ m same. absurd (let q : Lifted c ≡ Standing m = same in cc)) refer.standing)
      (λ d j off. lifted_stays locals id d j (Lifted c) (standing_unlifted locals id n d at)) (refer.standing id n at, get_or-set_same locals id (Lifted c) Free within)

  pub references_count_down : (c n id : ℕ) → c < length hands → get_or hands c Empty ≡ Giving n id → ReferencesHold cpus slots (set hands c Empty) due (set locals id Free)
  references_count_down c n id lt hand = references_hand (set locals id Free) c Empty lt (free_set slots locals id refer.standing)
      (λ d j off. lifted_stays locals id d j Free (lifted_once locals id c d (giving_holds cpus slots hands due locals c n id hand refer).1 off)) tt

  pub references_split_back : (c n id : ℕ) → c < length hands → get_or hands c Empty ≡ Back n id → ReferencesHold cpus slots (set hands c Empty) due (set locals id (Standing n))
  references_split_back c n id lt hand =
      let holds = back_holds cpus slots hands due locals c n id hand refer in
      references_hand (set locals id (Standing n)) c Empty lt (standing_set slots locals id (Standing n) (λ m. stands_still slots n m holds.0) refer.standing)
      (λ d j off. lifted_stays locals id d j (Standing n) (lifted_once locals id c d holds.1 off)) tt

  -- a place that stands becomes free
  pub references_freed : (next_due : Due) (id n : ℕ) → local_at locals id ≡ Standing n → DueHolds cpus slots next_due → ReferencesHold cpus slots hands next_due (set locals id Free)
  references_freed next_due id n at now = references_places cpus slots hands due next_due locals (set locals id Free) (free_set slots locals id refer.standing)
      (λ d j. lifted_stays locals id d j Free (standing_unlifted locals id n d at)) now refer

pub standing_tells : (p : LocalPlace) (n : ℕ) → number_standing p ≡ Some n → p ≡ Standing n
standing_tells p n is = grind arith

-- The opening

pub references_opening : (cpus slots : ℕ) → ReferencesHold cpus (replicate slots Vacant) (replicate cpus Empty) Rest []
references_opening cpus slots = grind (arith, get_or_all)

-- Seats

-- a CPU whose hand isn't empty has a seat
pub hand_seated : (cpus seated : ℕ) (begins : List (Option ℕ)) (searches : List (Option Search)) (hands : List Hand) (c : ℕ) → (get_or hands c Empty ≡ Empty → ⊥)
    → SeatsShow cpus seated begins searches hands → c < seated
hand_seated cpus seated begins searches hands c off seats = either (cases_lt c seated) (λ lt. lt) (λ ge. absurd (off (seats.empty c ge)))

pub seats_hand : (cpus seated : ℕ) (begins : List (Option ℕ)) (searches : List (Option Search)) (hands : List Hand) (c : ℕ) (h : Hand) → c < seated
    → SeatsShow cpus seated begins searches hands → SeatsShow cpus seated begins searches (set hands c h)
seats_hand cpus seated begins searches hands c h lt seats = grind (arith, get_or-set_other)
