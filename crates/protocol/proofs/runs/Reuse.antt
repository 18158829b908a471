-- Safe reuse: which events move an occupant, and what holds nothing then.
use Rattle.std.proofs.Common.{◌≡◌, ℕ, suc, ◌⊎◌, inl, inr, List, length, set, Option, Some, None, Bool, true, false, ◌&&◌, IsSome, refl, sym, ap, subst, ◌∙◌, get_or-set_same, get_or-set_other, arith}
use Rattle.std.proofs.lemmas.Bool.{and_parts}
use Rattle.std.proofs.lemmas.Option.{none-some, same_Some}
use Rattle.protocol.specs.Types.{Entry, Slot, Live, Retired, Vacant}
use Rattle.protocol.specs.Common.{Republish, IsPublishing}
use Rattle.protocol.proofs.keeps.Replacing.{may_republish_tells}
use Rattle.protocol.specs.Common.{Event, Publish, KeptSub, Vacate, EndsAt, State, opening, kept_at, state_after, may_write, is_drained, Holds, IsIn, IsUnheld, number_in, picture, empty_run, IsAllowed, occupant_of, Reply, after_event, destroyed_slot, given_slot, EveryRunKeeps}
use Rattle.registry_values.specs.Common.{slot_at}
use Rattle.protocol.proofs.keeps.Keeping.{ran_keeps, opening_holds}
use Rattle.protocol.proofs.model.RefiningEntries.{Drained, drained}
use Rattle.protocol.proofs.Occupied.{written_cases, in_within}
use Rattle.protocol.proofs.keeps.ListKeeps.{may_write_tells, may_publish_tells}
use Rattle.protocol.proofs.keeps.MarkKeeps.{is_drained_tells}
use Rattle.protocol.proofs.Made.{Made, StoresRow, StoresCount, StoresLink, Publishes, Unpublishes, Republishes, KeepsDriver, SubsKept, Vacates, each_event}
use Rattle.protocol.proofs.Either.{either}

-- Every run keeps the invariant.

pub every_run_keeps : EveryRunKeeps
every_run_keeps z events fit = ran_keeps (empty_run (opening z)) events (opening_holds z fit)

-- Occupants

pub number_is : (x : Slot) (n : ℕ) → number_in x ≡ Some n → (e : Entry) × IsIn e x × (e.number ≡ n)
number_is x n is = grind (arith, none-some, same_Some)

-- what a written slot list has at a place
moved : (slots : List Slot) (t : ℕ) (x : Slot) (u : ℕ) → ((u ≡ t) × (number_in (slot_at (set slots t x) u) ≡ number_in x)) ⊎ (number_in (slot_at (set slots t x) u) ≡ number_in (slot_at slots u))
moved slots t x u = either (written_cases Vacant slots t x u) (λ here. inl (here.0, ap number_in here.1)) (λ off. inr (ap number_in off.1))

-- the same where e came to a slot, and f of another is retired
swapped : (slots : List Slot) (t u : ℕ) (e f : Entry) (w : ℕ) → slot_at slots u ≡ Live f
    → ((w ≡ t) × (number_in (slot_at (set (set slots t (Live e)) u (Retired f)) w) ≡ Some e.number)) ⊎ (number_in (slot_at (set (set slots t (Live e)) u (Retired f)) w) ≡ number_in (slot_at slots w))
swapped slots t u e f w at = either (moved (set slots t (Live e)) u (Retired f) w)
    (λ here. inr (here.1 ∙ sym (ap (λ (k : ℕ). number_in (slot_at slots k)) here.0 ∙ ap number_in at)))
    (λ same. either (moved slots t (Live e) w) (λ new. inl (new.0, same ∙ new.1)) (λ old. inr (same ∙ old)))

-- an event that takes n from t
abbrev Goes : State → Event → ℕ → ℕ → Type 0
Goes s e t n = (destroyed_slot e ≡ Some t) × ((p : ℕ) × EndsAt s.history n p) × IsUnheld (picture s) n

vacated_goes : (s : State) (e : Event) (t u n : ℕ) → Holds s → destroyed_slot e ≡ Some u → is_drained s u ≡ true → occupant_of s t ≡ Some n
    → (number_in (slot_at (set s.slots u Vacant) t) ≡ Some n → ⊥) → Goes s e t n
vacated_goes s e t u n on of ok is off = either (moved s.slots u Vacant t)
    (λ here.
    let d : Drained s t n = drained s t n on (subst (λ (k : ℕ). is_drained s k ≡ true) (sym here.0) ok) is in
    (of ∙ ap (λ (k : ℕ). Some k) (sym here.0), (d.position, d.ended), d.unheld))
    (λ same. absurd (off (same ∙ is)))

made_goes : (s g : State) (e : Event) (r : Reply) (t n : ℕ) → Holds s → Made s e g r → occupant_of s t ≡ Some n → (occupant_of g t ≡ Some n → ⊥) → Goes s e t n
made_goes s g _ _ t n on (Publishes u e of may) is off = grind (arith, moved, none-some, may_publish_tells)
made_goes s g _ _ t n on (Unpublishes u head next e at rest past) is off = grind (arith, moved)
made_goes s g _ _ t n on (Republishes u v head next e f of at may past) is off =
    let told = may_republish_tells s u v e f on of at may in
    either (swapped s.slots u v e f t at)
    (λ new. absurd (none-some n (sym (ap number_in (ap (slot_at s.slots) (new.0 ∙ sym told.0) ∙ told.2.swap.vacant)) ∙ is)))
    (λ same. absurd (off (same ∙ is)))
made_goes s g _ _ t n on (SubsKept u d v keeps of may) is off = vacated_goes s (KeptSub u) t u n on refl (and_parts _ (is_drained s u) may).1 is off
made_goes s g _ _ t n on (Vacates u may) is off = vacated_goes s (Vacate u) t u n on refl (and_parts _ (is_drained s u) may).1 is off
made_goes s g _ _ t n on _ is off = absurd (off is)

pub goes : (s : State) (e : Event) (t n : ℕ) → Holds s → occupant_of s t ≡ Some n → (occupant_of (after_event s e) t ≡ Some n → ⊥) → Goes s e t n
goes s e t n on is = each_event (λ o. (occupant_of (state_after s o) t ≡ Some n → ⊥) → Goes s e t n) s e (λ off. absurd (off is)) (λ g r made off. made_goes s g e r t n on made is off)

-- an event that brings n into t
abbrev Comes : State → Event → ℕ → ℕ → Type 0
Comes s e t n = IsPublishing t e × (occupant_of s t ≡ None) × (n ≡ suc (length s.history))

vacated_away : (s : State) (t u n : ℕ) → (occupant_of s t ≡ Some n → ⊥) → number_in (slot_at (set s.slots u Vacant) t) ≡ Some n → ⊥
vacated_away s t u n off is = either (moved s.slots u Vacant t) (λ here. none-some n (sym here.1 ∙ is)) (λ same. off (sym same ∙ is))

made_comes : (s g : State) (e : Event) (r : Reply) (t n : ℕ) → Holds s → Made s e g r → (occupant_of s t ≡ Some n → ⊥) → occupant_of g t ≡ Some n → Comes s e t n
made_comes s g _ _ t n on (Publishes u e of may) off is =
    let told = may_publish_tells s u e on.shape may in
    either (moved s.slots u (Live e) t)
    (λ here. (inl (ap Publish (sym here.0)), ap number_in (ap (slot_at s.slots) here.0 ∙ told.vacant), sym (same_Some e.number n (sym here.1 ∙ is)) ∙ told.number))
    (λ same. absurd (off (sym same ∙ is)))
made_comes s g _ _ t n on (Unpublishes u head next e at rest past) off is = grind (arith, moved)
made_comes s g _ _ t n on (Republishes u v head next e f of at may past) off is =
    let told = may_republish_tells s u v e f on of at may in
    either (swapped s.slots u v e f t at)
    (λ new. (
      inr (v, ap (λ (k : ℕ). Republish k v) (sym new.0)),
      ap number_in (ap (slot_at s.slots) (new.0 ∙ sym told.0) ∙ told.2.swap.vacant),
      sym (same_Some e.number n (sym new.1 ∙ is)) ∙ told.2.swap.number,
    ))
    (λ same. absurd (off (sym same ∙ is)))
made_comes s g _ _ t n on (SubsKept u d v keeps of may) off is = absurd (vacated_away s t u n off is)
made_comes s g _ _ t n on (Vacates u may) off is = absurd (vacated_away s t u n off is)
made_comes s g _ _ t n on _ off is = absurd (off is)

pub comes : (s : State) (e : Event) (t n : ℕ) → Holds s → (occupant_of s t ≡ Some n → ⊥) → occupant_of (after_event s e) t ≡ Some n → Comes s e t n
comes s e t n on off = each_event (λ o. occupant_of (state_after s o) t ≡ Some n → Comes s e t n) s e (λ is. absurd (off is)) (λ g r made is. made_comes s g e r t n on made off is)

-- What an allowed event asks for

writes : (s : State) (t u : ℕ) → Holds s → Some t ≡ Some u → may_write s t ≡ true → occupant_of s u ≡ None
writes s t u on of may = subst (λ (k : ℕ). occupant_of s k ≡ None) (same_Some t u of) (ap number_in (may_write_tells s t on.shape may).2)

writes_and : (s : State) (t u : ℕ) (b : Bool) → Holds s → Some t ≡ Some u → (may_write s t && b) ≡ true → occupant_of s u ≡ None
writes_and s t u b on of may = writes s t u on of (and_parts (may_write s t) b may).0

made_vacant : (s g : State) (e : Event) (r : Reply) (u : ℕ) → Holds s → Made s e g r → given_slot e ≡ Some u → occupant_of s u ≡ None
made_vacant s g _ _ u on (StoresRow t k v may) of = writes s t u on of may
made_vacant s g _ _ u on (StoresCount t k v may) of = writes_and s t u _ on of may
made_vacant s g _ _ u on (StoresLink t v may) of = writes s t u on of may
made_vacant s g _ _ u on (KeepsDriver t id n v at stands may) of = writes_and s t u _ on of may
made_vacant s g _ _ u on (Publishes t e row may) of = writes_and s t u _ on of may
made_vacant s g _ _ u on (Republishes t v head next e f row at may past) of = writes_and s t u _ on of may
made_vacant s g _ _ u on _ of = absurd (none-some u of)

pub given_vacant : (s : State) (event : Event) (u : ℕ) → Holds s → given_slot event ≡ Some u → IsAllowed s event → occupant_of s u ≡ None
given_vacant s e u on of =
    each_event (λ o. IsSome o → occupant_of s u ≡ None) s e (λ some. absurd (let q : ◌≡◌ {A = Bool} false true = some in cc)) (λ n r made some. made_vacant s n e r u on made of)

made_drained : (s g : State) (e : Event) (r : Reply) (u : ℕ) → Made s e g r → destroyed_slot e ≡ Some u → is_drained s u ≡ true
made_drained s g _ _ u (Vacates t may) of = subst (λ (k : ℕ). is_drained s k ≡ true) (same_Some t u of) (and_parts _ (is_drained s t) may).1
made_drained s g _ _ u (SubsKept t d v keeps stands may) of = subst (λ (k : ℕ). is_drained s k ≡ true) (same_Some t u of) (and_parts _ (is_drained s t) may).1
made_drained s g _ _ u _ of = absurd (none-some u of)

pub destroyed_drained : (s : State) (event : Event) (u : ℕ) → destroyed_slot event ≡ Some u → IsAllowed s event → is_drained s u ≡ true
destroyed_drained s e u of =
    each_event (λ o. IsSome o → is_drained s u ≡ true) s e (λ some. absurd (let q : ◌≡◌ {A = Bool} false true = some in cc)) (λ n r made some. made_drained s n e r u made of)

-- Drivers

vacated_keeps : (s : State) (t u n : ℕ) → Holds s → is_drained s u ≡ true → occupant_of s t ≡ Some n → number_in (slot_at (set s.slots u Vacant) t) ≡ Some n → (t ≡ u → ⊥)
vacated_keeps s t u n on ok is now same = either (moved s.slots u Vacant t)
    (λ here. none-some n (sym here.1 ∙ now))
    (λ stays. absurd (
    let told = is_drained_tells s u on ok in
    let lt = in_within s.slots u told.1.0 (inr told.1.1) in
    let gone : number_in (slot_at (set s.slots u Vacant) t) ≡ None = ap number_in (ap (slot_at (set s.slots u Vacant)) same ∙ get_or-set_same s.slots u Vacant Vacant lt) in
    none-some n (sym gone ∙ now)))

made_same : (s g : State) (e : Event) (r : Reply) (t n : ℕ) → Holds s → Made s e g r → occupant_of s t ≡ Some n → occupant_of g t ≡ Some n → kept_at g.keeps t ≡ kept_at s.keeps t
made_same s g _ _ t n on (KeepsDriver u id d v at stands may) is now = grind (arith, may_write_tells, and_parts, get_or-set_other, none-some)
made_same s g _ _ t n on (SubsKept u d v keeps of may) is now = get_or-set_other s.keeps u t None None (vacated_keeps s t u n on (and_parts _ (is_drained s u) may).1 is now)
made_same s g _ _ t n on _ is now = refl

pub keeps_same : (s : State) (e : Event) (t n : ℕ) → Holds s → occupant_of s t ≡ Some n → occupant_of (after_event s e) t ≡ Some n → kept_at (after_event s e).keeps t ≡ kept_at s.keeps t
keeps_same s e t n on is =
    each_event (λ o. occupant_of (state_after s o) t ≡ Some n → kept_at (state_after s o).keeps t ≡ kept_at s.keeps t) s e (λ now. refl) (λ g r made now. made_same s g e r t n on made is now)

-- the occupant of a slot goes or stays
pub goes_or_stays : (x : Option ℕ) (n : ℕ) → (x ≡ Some n) ⊎ (x ≡ Some n → ⊥)
goes_or_stays x n = grind (arith, none-some, same_Some)
