-- The events that attach, detach, keep and vacate make steps of the model.
use Rattle.std.proofs.Common.{◌≡◌, ℕ, ◌+◌, ◌-◌, ◌<◌, ◌⊎◌, inl, inr, List, length, set, Option, Some, None, true, refl, sym, ap, subst, ◌∙◌, arith, sum_by}
use Rattle.std.proofs.lemmas.Bool.{and_parts, cases_eq, cases_lt}
use Rattle.std.proofs.lemmas.Option.{none-some, same_Some}
use Rattle.protocol.specs.Types.{Entry, Change, Attach, Detach, Slot, Vacant, Live, Retired}
use Rattle.protocol.specs.Common.{Free, Standing, Due, Rest, after_change, IsLegal, EndsAt, State, row_at, passive_at, kept_at, local_at, Holds, IsIn, SlotsShow, held_at, standing_of, in_hand, put, IsUnheld, IsDriverHere, IsModelRun, number_in, passive_in, Hand, trying_at, subtractions_due, locals_of, picture, TakesNone}
use Rattle.protocol.specs.Events
use Rattle.registry_values.specs.Common.{slot_at, slot_of}
use Rattle.protocol.specs.Model
use Rattle.protocol.specs.History.{rank_at}
use Rattle.protocol.specs.Common.{may_republish, with_replaced, trying_at}
use Rattle.protocol.proofs.keeps.Replacing.{IsSwap, MaySwap, after_swap, legal_swap, may_republish_tells, old_still, old_within, slots_swap}
use Rattle.protocol.proofs.keeps.Searching.{within_some}
use Rattle.protocol.proofs.Occupied.{in_other, in_written, not_vacant, live_one, in_within, in_published, in_unpublished, in_vacated, attached_in, slot_has}
use Rattle.protocol.proofs.Cells.{slot_number}
use Rattle.protocol.proofs.keeps.SectionKeeps.{none_from}
use Rattle.protocol.proofs.keeps.ListKeeps.{may_publish_tells, may_write_tells, entry_shows}
use Rattle.protocol.proofs.keeps.MarkKeeps.{is_drained_tells}
use Rattle.protocol.proofs.counts.Bounds.{none_held_at_bias}
use Rattle.protocol.proofs.keeps.Drivers.{HasDriver, slot_has_driver}
use Rattle.protocol.proofs.counts.Sums.{unreferred, standing_counts, one_self, one_other, standing_within, local_changed}
use Rattle.protocol.proofs.model.RefiningSections.{one_step, two_steps, put_here, put_other, put_is, written, unwritten}
use Rattle.protocol.proofs.Either.{either}

-- Slots change, and the references that a number has stay.

-- the entry n is in the slot u
abbrev pub At : List Slot → ℕ → ℕ → Type 0
At slots n u = (e : Entry) × IsIn e (slot_at slots u) × (e.number ≡ n)

pub own_slot : (h : List Change) (slots : List Slot) (n u : ℕ) → SlotsShow h slots → At slots n u → slot_of slots n ≡ Some u
own_slot h slots n u show at = ap (slot_of slots) (sym at.2) ∙ slot_number h slots at.0 u show at.1

-- where the slot of a number stays, or has no passive references
pub passive_moved : (h k : List Change) (slots others : List Slot) (passive : List (List ℕ)) (hands : List Hand) (c n : ℕ) → SlotsShow h slots → SlotsShow k others
    → ((u : ℕ) → At slots n u → At others n u ⊎ (passive_at passive c u - trying_at hands c u ≡ 0)) → ((u : ℕ) → At others n u → At slots n u ⊎ (passive_at passive c u - trying_at hands c u ≡ 0))
    → passive_in passive hands c (slot_of slots n) ≡ passive_in passive hands c (slot_of others n)
passive_moved h k slots others passive hands c n show later forth back = go (slot_of slots n) (slot_of others n) refl refl
  where
    go : (o p : Option ℕ) → slot_of slots n ≡ o → slot_of others n ≡ p → passive_in passive hands c o ≡ passive_in passive hands c p
    go None None before after = refl
    go None (Some v) before after = either (back v (slot_has others n v after).1)
        (λ at. absurd (none-some v (sym before ∙ own_slot h slots n v show at)))
        (λ none. sym none)
    go (Some u) None before after = either (forth u (slot_has slots n u before).1)
        (λ at. absurd (none-some u (sym after ∙ own_slot k others n u later at)))
        (λ none. none)
    go (Some u) (Some v) before after = either (forth u (slot_has slots n u before).1)
        (λ at. ap (λ (w : ℕ). passive_at passive c w - trying_at hands c w) (same_Some u v (sym (own_slot k others n u later at) ∙ after)))
        (λ none. either (back v (slot_has others n v after).1)
        (λ at. ap (λ (w : ℕ). passive_at passive c w - trying_at hands c w) (same_Some u v (sym before ∙ own_slot h slots n v show at)))
        (λ also. none ∙ sym also))

-- at rest no reference waits for the keeper
waiting_rest : (slots : List Slot) (n : ℕ) (due : Due) → due ≡ Rest → subtractions_due slots n due ≡ 0
waiting_rest slots n due is = ap (subtractions_due slots n) is

-- Stores to a vacant slot show nothing.

-- Publish and Unpublish

publish_own : (s : State) (e : Entry) → Holds s → Holds (Events.after_publish s e.slot e) → Events.may_publish s e.slot e ≡ true → IsModelRun TakesNone (picture s) (picture (Events.after_publish s e.slot e))
publish_own s e on now ok =
    let told = may_publish_tells s e.slot e on.shape ok in
    let unheld : (c : ℕ) → passive_at s.passive c e.slot - trying_at s.hands c e.slot ≡ 0 = λ c. omega (arith, on.passive.vacant c e.slot told.vacant) in
    one_step (picture s) _ (picture (Events.after_publish s e.slot e)) (Model.Attaches e (ap number_in told.vacant) now.legal told.number told.rightly) (assumption (
      λ (c : ℕ) (n : ℕ). passive_moved s.history (after_change s.history (Attach e)) s.slots (set s.slots e.slot (Live e)) s.passive s.hands c n on.slots now.slots
          (λ u at. inl (at.0, in_other s.slots e.slot (Live e) at.0 u (λ same. not_vacant at.0 (slot_at s.slots u) (ap (slot_at s.slots) same ∙ told.vacant) at.1) at.1, at.2))
          (λ u at. either (in_published s.slots e.slot u e at.0 told.within at.1)
          (λ new. inr (ap (λ (w : ℕ). passive_at s.passive c w - trying_at s.hands c w) new.0 ∙ unheld c))
          (λ old. inl (at.0, old, at.2))),
      λ (n : ℕ). ap (λ (w : ℕ). sum_by (standing_of n) s.locals + sum_by (in_hand n) s.hands + w)
          (waiting_rest s.slots n s.due told.rest ∙ sym (waiting_rest (set s.slots e.slot (Live e)) n s.due told.rest)),
      written number_in Vacant s.slots e.slot (Live e) told.within,
    ))

pub publish_refines : (s : State) (t : ℕ) (e : Entry) → Holds s → Holds (Events.after_publish s t e) → Events.entry_of t (row_at s.rows t) ≡ Some e → Events.may_publish s t e ≡ true
    → IsModelRun TakesNone (picture s) (picture (Events.after_publish s t e))
publish_refines s t e on now is ok =
    subst (λ (u : ℕ). Holds (Events.after_publish s u e) → Events.may_publish s u e ≡ true → IsModelRun TakesNone (picture s) (picture (Events.after_publish s u e)))
    (entry_shows t (row_at s.rows t) e is).0 (λ later may. publish_own s e on later may) now ok

pub retiring_refines : (s : State) (t : ℕ) (e : Entry) → Holds s → s.due ≡ Rest → slot_at s.slots t ≡ Live e → IsLegal (after_change s.history (Detach e.number))
    → SlotsShow (after_change s.history (Detach e.number)) (set s.slots t (Retired e))
    → IsModelRun TakesNone (picture s) (picture (Events.with_retired s t e))
retiring_refines s t e on rest at legal later =
    one_step (picture s) _ (picture (Events.with_retired s t e)) (Model.Detaches e.number legal) (assumption (
      λ (c : ℕ) (n : ℕ). passive_moved s.history (after_change s.history (Detach e.number)) s.slots (set s.slots t (Retired e)) s.passive s.hands c n on.slots later
          (λ u was. either (cases_eq u t)
          (λ same.
          let one : was.0 ≡ e = live_one was.0 e (slot_at s.slots t) at (subst (λ (k : ℕ). IsIn was.0 (slot_at s.slots k)) same was.1) in
          inl (
            e,
            subst (λ (k : ℕ). IsIn e (slot_at (set s.slots t (Retired e)) k)) (sym same) (in_written s.slots t (Retired e) e (in_within s.slots t e (inl at)) (inr refl)),
            ap (λ (f : Entry). f.number) (sym one) ∙ was.2,
          ))
          (λ off. inl (was.0, in_other s.slots t (Retired e) was.0 u off was.1, was.2)))
          (λ u was. inl (was.0, in_unpublished s.slots t u e was.0 at was.1, was.2)),
      λ (n : ℕ). ap (λ (w : ℕ). sum_by (standing_of n) s.locals + sum_by (in_hand n) s.hands + w) (waiting_rest s.slots n s.due rest),
      unwritten number_in Vacant s.slots t (Retired e) (ap number_in at),
    ))

swap_refines : (s : State) (f e : Entry) → Holds s → IsSwap s f e → IsModelRun TakesNone (picture s) (picture (with_replaced s e.slot f.slot e f))
swap_refines s f e on is =
    let m : MaySwap s.history s.slots f e = is.swap in
    let slots : List Slot = set s.slots e.slot (Live e) in
    let still : slot_at slots f.slot ≡ Live f = old_still s.history s.slots f e m in
    let lt : f.slot < length slots = old_within s.history s.slots f e m in
    let unheld : (c : ℕ) → passive_at s.passive c e.slot - trying_at s.hands c e.slot ≡ 0 = λ c. omega (arith, on.passive.vacant c e.slot m.vacant) in
    one_step (picture s) _ (picture (with_replaced s e.slot f.slot e f))
    (Model.Replaces f.number (rank_at s.history f.number) e (ap number_in m.vacant) (legal_swap s.history s.slots f e m) m.number is.rightly) (assumption (
      λ (c : ℕ) (n : ℕ). passive_moved s.history (after_swap s.history f e) s.slots (set slots f.slot (Retired f)) s.passive s.hands c n on.slots (slots_swap s.history s.slots f e m)
          (λ u at.
          let there : IsIn at.0 (slot_at slots u) = in_other s.slots e.slot (Live e) at.0 u (λ same. not_vacant at.0 (slot_at s.slots u) (ap (slot_at s.slots) same ∙ m.vacant) at.1) at.1 in
          inl (at.0, retired_in slots f at.0 u still there, at.2))
          (λ u at. either (in_published s.slots e.slot u e at.0 m.within (in_unpublished slots f.slot u f at.0 still at.1))
          (λ new. inr (ap (λ (w : ℕ). passive_at s.passive c w - trying_at s.hands c w) new.0 ∙ unheld c))
          (λ old. inl (at.0, old, at.2))),
      λ (n : ℕ). ap (λ (w : ℕ). sum_by (standing_of n) s.locals + sum_by (in_hand n) s.hands + w) (waiting_rest s.slots n s.due is.rest),
      λ (j : ℕ). written number_in Vacant s.slots e.slot (Live e) m.within j ∙ unwritten number_in Vacant slots f.slot (Retired f) (ap number_in still) j,
    ))
  where
    retired_in : (slots : List Slot) (f g : Entry) (u : ℕ) → slot_at slots f.slot ≡ Live f → IsIn g (slot_at slots u) → IsIn g (slot_at (set slots f.slot (Retired f)) u)
    retired_in slots f g u at there = either (cases_eq u f.slot)
        (λ same.
        let one : g ≡ f = live_one g f (slot_at slots f.slot) at (subst (λ (k : ℕ). IsIn g (slot_at slots k)) same there) in
        subst (λ (i : Entry). IsIn i (slot_at (set slots f.slot (Retired f)) u)) (sym one)
        (subst (λ (k : ℕ). IsIn f (slot_at (set slots f.slot (Retired f)) k)) (sym same) (in_written slots f.slot (Retired f) f (in_within slots f.slot f (inl at)) (inr refl))))
        (λ off. in_other slots f.slot (Retired f) g u off there)

pub republish_refines : (s : State) (t u : ℕ) (e f : Entry) → Holds s → Events.entry_of t (row_at s.rows t) ≡ Some e → slot_at s.slots u ≡ Live f → may_republish s t u e f ≡ true
    → IsModelRun TakesNone (picture s) (picture (with_replaced s t u e f))
republish_refines s t u e f on of at may =
    let told = may_republish_tells s t u e f on of at may in
    subst (λ (k : ℕ). IsModelRun TakesNone (picture s) (picture (with_replaced s k u e f))) told.0
    (subst (λ (k : ℕ). IsModelRun TakesNone (picture s) (picture (with_replaced s e.slot k e f))) told.1 (swap_refines s f e on told.2))

-- Keep

pub number_of : (x : Slot) (e : Entry) → IsIn e x → number_in x ≡ Some e.number
number_of x e is = either is (λ live. ap number_in live) (λ gone. ap number_in gone)

pub keep_refines : (s : State) (t id n u : ℕ) → Holds s → local_at s.locals id ≡ Standing n → slot_of s.slots n ≡ Some u → Events.may_keep s t u ≡ true
    → IsModelRun TakesNone (picture s) (picture (Events.after_keep s t id n))
keep_refines s t id n u on at of ok =
    let p = and_parts (Events.may_write s t) _ ok in
    let p1 = and_parts _ (Events.is_driver_slot (slot_at s.slots u)) p.1 in
    let told = may_write_tells s t on.shape p.0 in
    let has : HasDriver s.slots n = slot_has_driver s.slots n u of p1.1 in
    let lt : id < length s.locals = standing_within s.locals id n at in
    let changed = λ (i : ℕ). local_changed i s.locals id (Standing n) Free lt at in
    let here : IsDriverHere (picture s) n = record {
      entry = has.1;
      attached = (attached_in s.history s.slots has.0 has.1 on.slots has.2).0;
      numbered = has.3;
      driver = has.4;
      slot = has.0;
      occupant = number_of (slot_at s.slots has.0) has.1 has.2 ∙ ap (λ (k : ℕ). Some k) has.3;
    } in
    one_step (picture s) _ (picture (Events.after_keep s t id n))
    (Model.Keeps t n (ap number_in told.2) (none_from (kept_at s.keeps t) p1.0) here (omega (arith, standing_counts n s.locals id at)))
    (assumption (
      put_is (λ i. locals_of s i) (λ i. locals_of (Events.after_keep s t id n) i) n (locals_of s n - 1)
          (omega (arith, changed n, one_self n n refl))
          (λ i off. omega (arith, changed i, one_other n i (λ same. off (sym same)))),
      written (λ (x : Option ℕ). x) None s.keeps t (Some n) (omega (arith, told.1, on.shape.slots, on.shape.keeps)),
    ))

-- Vacate and KeptSub

-- a drained slot's occupant is detached, and nothing of the four kinds holds it
pub record Drained (s : State) (t n : ℕ) : Type 0 where
  pub due : s.due ≡ Rest
  pub entry : Entry
  pub number : entry.number ≡ n
  pub gone : slot_at s.slots t ≡ Retired entry
  pub position : ℕ
  pub ended : EndsAt s.history n position
  pub passive : (c : ℕ) → passive_at s.passive c t - trying_at s.hands c t ≡ 0
  pub unheld : IsUnheld (picture s) n

pub drained : (s : State) (t n : ℕ) → Holds s → Events.is_drained s t ≡ true → number_in (slot_at s.slots t) ≡ Some n → Drained s t n
drained s t n on ok is =
    let told = is_drained_tells s t on ok in
    let e : Entry = told.1.0 in
    let at : slot_at s.slots t ≡ Retired e = told.1.1 in
    let number : e.number ≡ n = same_Some e.number n (sym (ap number_in at) ∙ is) in
    let was = on.slots.retired t e at in
    let end : EndsAt s.history n was.2.0 = subst (λ (k : ℕ). EndsAt s.history k was.2.0) number was.2.1 in
    let none : held_at s.locals s.hands s.keeps s.due e.number t ≡ 0 = none_held_at_bias on.balance t e told.0 at told.4 told.5 in
    let free : held_at s.locals s.hands s.keeps s.due n t ≡ 0 = subst (λ (k : ℕ). held_at s.locals s.hands s.keeps s.due k t ≡ 0) number none in
    let words : (c : ℕ) → passive_at s.passive c t - trying_at s.hands c t ≡ 0 = λ c. either (cases_lt c s.settings.cpus)
    (λ low. omega (arith, (on.passive.clear c t e at (told.3 c low)).1))
    (λ past. omega (arith, on.passive.beyond c t past)) in
    record {
      due = told.0;
      entry = e;
      number = number;
      gone = at;
      position = was.2.0;
      ended = end;
      passive = words;
      unheld = record {
        sections = λ c b f in_ may same.
            let low : c < s.settings.cpus = omega (arith, within_some s.begins c b in_, on.shape.begins) in
            omega (arith, may.unended was.2.0 (subst (λ (k : ℕ). EndsAt s.history k was.2.0) (sym same) end), on.grace.passed t was.2.0 c b e at was.2.1 in_ (told.2 c low));
        passive = λ c. ap (passive_in s.passive s.hands c) (own_slot s.history s.slots n t on.slots (e, inr at, number)) ∙ words c;
        locals = omega (arith, free, waiting_rest s.slots n s.due told.0);
        keeps = (unreferred s.locals s.hands s.keeps s.due n t free).unkept;
      };
    }

pub unheld_when_drained : (s : State) (t n : ℕ) → Holds s → Events.is_drained s t ≡ true → number_in (slot_at s.slots t) ≡ Some n → IsUnheld (picture s) n
unheld_when_drained s t n on ok is = (drained s t n on ok is).unheld

-- the occupant of a drained slot
occupant_of : (s : State) (t : ℕ) → Holds s → Events.is_drained s t ≡ true → (n : ℕ) × (number_in (slot_at s.slots t) ≡ Some n)
occupant_of s t on ok = let told = is_drained_tells s t on ok in (told.1.0.number, ap number_in told.1.1)

-- the slot of a drained entry becomes vacant
pub vacated_passive : (s : State) (t n : ℕ) → Holds s → Drained s t n → SlotsShow s.history (set s.slots t Vacant)
    → (c i : ℕ) → passive_in s.passive s.hands c (slot_of s.slots i) ≡ passive_in s.passive s.hands c (slot_of (set s.slots t Vacant) i)
vacated_passive s t n on d later c i = passive_moved s.history s.history s.slots (set s.slots t Vacant) s.passive s.hands c i on.slots later
    (λ u was. either (cases_eq u t)
    (λ same. inr (ap (λ (w : ℕ). passive_at s.passive c w - trying_at s.hands c w) same ∙ d.passive c))
    (λ off. inl (was.0, in_other s.slots t Vacant was.0 u off was.1, was.2)))
    (λ u was. inl (was.0, (in_vacated s.slots t u d.entry was.0 d.gone was.1).1, was.2))

vacated_locals : (s : State) (t n : ℕ) → Drained s t n → (i : ℕ) → locals_of s i ≡ locals_of (record s { slots = set s.slots t Vacant }) i
vacated_locals s t n d i = grind (arith, waiting_rest)

pub vacate_refines : (s : State) (t : ℕ) → Holds s → Holds (Events.after_vacate s t) → Events.may_vacate s t ≡ true → IsModelRun TakesNone (picture s) (picture (Events.after_vacate s t))
vacate_refines s t on now ok =
    let p = and_parts _ (Events.is_drained s t) ok in
    let n = occupant_of s t on p.1 in
    let d : Drained s t n.0 = drained s t n.0 on p.1 n.1 in
    one_step (picture s) _ (picture (Events.after_vacate s t)) (Model.Vacates t n.0 d.position n.1 d.ended d.unheld (none_from (kept_at s.keeps t) p.0)) (assumption (
      vacated_passive s t n.0 on d now.slots,
      vacated_locals s t n.0 d,
      written number_in Vacant s.slots t Vacant (in_within s.slots t d.entry (inr d.gone)),
    ))

pub kept_sub_refines : (s : State) (t u k : ℕ) → Holds s → Holds (Events.after_kept_sub s t u) → kept_at s.keeps t ≡ Some k → Events.is_drained s t ≡ true → IsModelRun TakesNone (picture s) (picture (Events.after_kept_sub s t u))
kept_sub_refines s t u k on now kept ok =
    let n = occupant_of s t on ok in
    let d : Drained s t n.0 = drained s t n.0 on ok n.1 in
    let some : (put (λ i. locals_of s i) k (locals_of s k + 1)) k ≡ locals_of s k + 1 = put_here (λ i. locals_of s i) k (locals_of s k + 1) in
    two_steps (picture s) _ _ (picture (Events.after_kept_sub s t u)) (Model.Gives_up t n.0 d.position k n.1 d.ended d.unheld kept) (Model.Uncounts k (omega (arith, some))) (assumption (
      vacated_passive s t n.0 on d now.slots,
      put_is (put (λ i. locals_of s i) k (locals_of s k + 1)) (λ i. locals_of (Events.after_kept_sub s t u) i) k (put (λ i. locals_of s i) k (locals_of s k + 1) k - 1)
          (omega (arith, some, vacated_locals s t n.0 d k))
          (λ i off. put_other (λ j. locals_of s j) k (locals_of s k + 1) i off ∙ vacated_locals s t n.0 d i),
      written number_in Vacant s.slots t Vacant (in_within s.slots t d.entry (inr d.gone)),
      written (λ (x : Option ℕ). x) None s.keeps t None (within_some s.keeps t k kept),
    ))
