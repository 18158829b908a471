-- An entry is linked at the head, and unlinked, there or in the middle of the list.
use Rattle.std.proofs.Common.{List, Option, ap, arith, get_or, get_or-set_other, get_or-set_same, inl, inr, length, refl, set, subst, suc, sym, true, zero, ℕ, ◌<◌, ◌∙◌, ◌≡◌, ◌≢◌, ◌≤◌, ◌⊎◌, None, Some, ◌+◌}
use Rattle.std.proofs.lemmas.Bool.{cases_eq, cases_lt, and_from, and_parts, eq-eqb, eqb-true}
use Rattle.std.proofs.lemmas.List.{get_or_past}
use Rattle.std.proofs.lemmas.List.Quantifiers.{position-Some}
use Rattle.std.proofs.lemmas.Slice.Zip.{get_or-zip, length-zip}
use Rattle.std.specs.List.{zip}
use Rattle.std.specs.Prelude.{◌==◌}
use Rattle.protocol.specs.Types.{Change, Attach, Detach, Replace, Entry, Mark, Slot, Live, Retired, Vacant}
use Rattle.registry_values.specs.Common.{key_of, slot_at, is_live, leads_to, slot_before}
use Rattle.registry_values.specs.Names.{are_key_words}
use Rattle.protocol.specs.Common.{brought_by, ended_by, rank_by, words_of, EndsAt, IsLegal, IsLiveAt, after_change, HeldStay, IsIn, Leads, LinksStay, ListShows, MarksHold, RowsShow, SlotsShow, To_end, To_entry, row_at, RecordWords, IsAttached}
use Rattle.protocol.specs.History.{change_at, rank_at}
use Rattle.std.proofs.lemmas.Option.{none-some, same_Some}
use Rattle.protocol.proofs.History.{attach_cases, brings_cases, end_cases, ended_within, hold_was, leads_old, at_cases, at_new, attached_old, ends_after, ends_old, length-after_change, live_down, live_old, live_was, one_entry, one_end, one_rank, rank_is, rank_low, rank_old, rank_then}
use Rattle.protocol.proofs.Occupied.{not_vacant, slot_cases, live_one}
use Rattle.protocol.proofs.Either.{either}
use Rattle.protocol.proofs.Cells.{position_fails}

-- A change more is legal, if it is.

-- live before the change, by the history with it
live_then : (h : List Change) (c : Change) (k : ℕ) (g : Entry) → suc k ≡ suc (length h) → IsLiveAt (after_change h c) k g → IsLiveAt h (length h) g
live_then h c k g at live = subst (λ (m : ℕ). IsLiveAt h m g) (omega arith) (live_was h c k g (omega arith) live)

pub legal_more : (h : List Change) (c : Change) → IsLegal h → ((e : Entry) → brought_by (Some c) ≡ Some e → e.number ≡ suc (length h))
    → ((e f : Entry) → c ≡ Attach e → IsLiveAt h (length h) f → key_of f ≡ key_of e → ⊥)
    → ((e f : Entry) → brought_by (Some c) ≡ Some e → IsLiveAt h (length h) f → f.slot ≡ e.slot → ⊥)
    → ((n : ℕ) → ended_by (Some c) ≡ Some n → (f : Entry) × IsLiveAt h (length h) f × (f.number ≡ n))
    → ((n r : ℕ) (e f : Entry) → c ≡ Replace n r e → IsLiveAt h (length h) f → f.number ≡ n → (key_of f ≡ key_of e) × (r ≡ rank_at h n))
    → IsLegal (after_change h c)
legal_more h c legal number no_key no_slot ends alike = record {
  numbered = λ k f x. either (brings_cases h c k f x) (λ old. legal.numbered k f old.was) (λ new. number f new.is ∙ sym new.new);
  new_key = λ k f g x live same. either (at_cases h c (suc k) (Attach f) x)
      (λ old. legal.new_key k f g old.was (live_was h c k g (omega (arith, old.old)) live) same)
      (λ new. no_key f g (sym new.is) (live_then h c k g new.new live) same);
  new_slot = λ k f g x live same. either (brings_cases h c (suc k) f x)
      (λ old. legal.new_slot k f g old.was (live_was h c k g (omega (arith, old.old)) live) same)
      (λ new. no_slot f g new.is (live_then h c k g new.new live) same);
  ends_live = λ k n x. either (end_cases h c n (suc k) x)
      (λ old.
      let l : (f : Entry) × IsLiveAt h k f × (f.number ≡ n) = legal.ends_live k n old.was in
      (l.0, live_old h c k l.0 (omega (arith, old.old)) l.1, l.2))
      (λ new.
      let l : (f : Entry) × IsLiveAt h (length h) f × (f.number ≡ n) = ends n new.is in
      (l.0, live_old h c k l.0 (omega (arith, new.new)) (subst (λ (m : ℕ). IsLiveAt h m l.0) (omega (arith, new.new)) l.1), l.2));
  alike = λ k n r e f x live same. either (at_cases h c (suc k) (Replace n r e) x)
      (λ old.
      let was = legal.alike k n r e f old.was (live_was h c k f (omega (arith, old.old)) live) same in
      (was.0, was.1 ∙ sym (rank_old h c n (omega (arith, old.old, live.begun, same)))))
      (λ new.
      let now = alike n r e f (sym new.is) (live_then h c k f new.new live) same in
      (now.0, now.1 ∙ sym (rank_old h c n (omega (arith, new.new, live.begun, same)))));
}

pub legal_attach : (h : List Change) (e : Entry) → IsLegal h → e.number ≡ suc (length h)
    → ((f : Entry) → IsLiveAt h (length h) f → key_of f ≡ key_of e → ⊥) → ((f : Entry) → IsLiveAt h (length h) f → f.slot ≡ e.slot → ⊥) → IsLegal (after_change h (Attach e))
legal_attach h e legal number no_key no_slot = legal_more h (Attach e) legal
    (λ f is. ap (λ (g : Entry). g.number) (sym (same_Some e f is)) ∙ number)
    (λ f g is live same. let one : f ≡ e = (let q : Attach e ≡ Attach f = is in cc) in no_key g live (same ∙ ap key_of one))
    (λ f g is live same. no_slot g live (same ∙ ap (λ (i : Entry). i.slot) (sym (same_Some e f is))))
    (λ n is. absurd (none-some n is))
    (λ n r f g is live same. absurd (let q : Attach e ≡ Replace n r f = is in cc))

-- an end is an older one
pub ends_before : (h : List Change) (e : Entry) (n p : ℕ) → EndsAt (after_change h (Attach e)) n p → (p ≤ length h) × EndsAt h n p
ends_before h e n p x = either (end_cases h (Attach e) n p x) (λ old. (old.old, old.was)) (λ new. absurd (none-some n new.is))

-- what the new change brings is attached
pub new_attached : (h : List Change) (c : Change) (e : Entry) → brought_by (Some c) ≡ Some e → e.number ≡ suc (length h) → IsAttached (after_change h c) e
new_attached h c e is number = ap (λ (k : ℕ). brought_by (change_at (after_change h c) k)) number ∙ (ap brought_by (at_new h c) ∙ is)

-- and its rank is what the change says
pub new_rank : (h : List Change) (c : Change) (n : ℕ) → n ≡ suc (length h) → rank_at (after_change h c) n ≡ rank_by (suc (length h)) (Some c)
new_rank h c n at = ap (rank_at (after_change h c)) at ∙ rank_is (after_change h c) (suc (length h)) (Some c) (at_new h c)

pub new_live : (h : List Change) (e : Entry) → IsLegal h → e.number ≡ suc (length h) → IsLiveAt (after_change h (Attach e)) (suc (length h)) e
new_live h e legal number = record {
  attached = new_attached h (Attach e) e refl number;
  begun = omega (arith, number);
  unended = λ p x. let was = ends_before h e e.number p x in omega (arith, number, was.0, ends_after h legal e.number p was.1);
}

pub still_live : (h : List Change) (e f : Entry) → IsLiveAt h (length h) f → IsLiveAt (after_change h (Attach e)) (suc (length h)) f
still_live h e f live = record {
  attached = attached_old h (Attach e) f live.attached;
  begun = omega (arith, live.begun);
  unended = λ p x. let was = ends_before h e f.number p x in omega (arith, was.0, live.unended p was.1);
}

pub live_cases : (h : List Change) (e f : Entry) → e.number ≡ suc (length h) → IsLiveAt (after_change h (Attach e)) (suc (length h)) f → (f ≡ e) ⊎ IsLiveAt h (length h) f
live_cases h e f number live = either (cases_eq f.number (suc (length h)))
    (λ same. inl (one_entry (after_change h (Attach e)) f e live.attached (new_attached h (Attach e) e refl number) (same ∙ sym number)))
    (λ off. inr (live_was h (Attach e) (length h) f (omega arith) (live_down (after_change h (Attach e)) (suc (length h)) (length h) f live (omega (arith, live.begun)) (omega arith))))

-- of an attach: its number
own_rank : (h : List Change) (e : Entry) → e.number ≡ suc (length h) → rank_at (after_change h (Attach e)) e.number ≡ suc (length h)
own_rank h e number = new_rank h (Attach e) e.number number

-- the ranks of what was live before
then_rank : (h : List Change) (c : Change) (f : Entry) → IsLiveAt h (length h) f → rank_at (after_change h c) f.number ≡ rank_at h f.number
then_rank h c f live = rank_then h c (length h) f (omega arith) live.begun

pub leads_attach : (h : List Change) (e : Entry) (n x : ℕ) → e.number ≡ suc (length h) → n ≤ suc (length h) → Leads h (length h) n x → Leads (after_change h (Attach e)) (suc (length h)) n x
leads_attach h e n zero number le (To_end none) = To_end (λ f live lt. either (live_cases h e f number live)
    (λ same. omega (arith, lt, ap (λ (g : Entry). rank_at (after_change h (Attach e)) g.number) same, own_rank h e number))
    (λ old. none f old (omega (arith, lt, then_rank h (Attach e) f old))))
leads_attach h e n _ number le (To_entry g live lt most) = To_entry g (still_live h e g live) (omega (arith, lt, then_rank h (Attach e) g live)) (λ f lf low. either (live_cases h e f number lf)
    (λ same. absurd (omega (arith, low, ap (λ (i : Entry). rank_at (after_change h (Attach e)) i.number) same, own_rank h e number)))
    (λ old. let rank = then_rank h (Attach e) f old in omega (arith, rank, then_rank h (Attach e) g live, most f old (omega (arith, low, rank)))))

pub slots_attach : (h : List Change) (slots : List Slot) (e : Entry) → IsLegal h → e.slot < length slots → slot_at slots e.slot ≡ Vacant → e.number ≡ suc (length h)
    → SlotsShow h slots → SlotsShow (after_change h (Attach e)) (set slots e.slot (Live e))
slots_attach h slots e legal lt vacant number show =
    let now : (f : Entry) → IsLiveAt (after_change h (Attach e)) (suc (length h)) f → IsLiveAt (after_change h (Attach e)) (length (after_change h (Attach e))) f
    = λ f live. subst (λ (n : ℕ). IsLiveAt (after_change h (Attach e)) n f) (sym (length-after_change h (Attach e))) live in
    record {
      live = λ u f is. grind (arith, slot_cases slots e.slot (Live e) u lt, show.live u f, now f, still_live h e f, new_live h e legal number);
      placed = grind (arith, live_cases, length-after_change, get_or-set_same, get_or-set_other);
      retired = λ u f is. either (slot_cases slots e.slot (Live e) u lt)
          (λ same. absurd (let q : Retired f ≡ Live e = sym is ∙ same.1 in cc))
          (λ off.
          let was = show.retired u f (sym off.1 ∙ is) in
          (attached_old h (Attach e) f was.0, was.1, (was.2.0, ends_old h (Attach e) f.number was.2.0 was.2.1)));
    }

pub rows_attach : (slots : List Slot) (rows : List RecordWords) (e : Entry) → e.slot < length slots → row_at rows e.slot ≡ words_of e → are_key_words e.rec.name.high e.rec.name.low ≡ true
    → RowsShow slots rows → RowsShow (set slots e.slot (Live e)) rows
rows_attach slots rows e lt row name show u f is = either (slot_cases slots e.slot (Live e) u lt)
    (λ same.
    let one : f ≡ e = live_one f e (slot_at (set slots e.slot (Live e)) u) same.1 is in
    (ap (row_at rows) same.0 ∙ (row ∙ ap words_of (sym one)), ap (λ (g : Entry). are_key_words g.rec.name.high g.rec.name.low) one ∙ name))
    (λ off. show u f (subst (IsIn f) off.1 is))

pub list_attach : (h : List Change) (slots : List Slot) (head : ℕ) (next : List ℕ) (e : Entry) → IsLegal h → e.slot < length slots → e.number ≡ suc (length h) → get_or next e.slot 0 ≡ head
    → SlotsShow h slots → ListShows h slots head next → ListShows (after_change h (Attach e)) (set slots e.slot (Live e)) (suc e.slot) next
list_attach h slots head next e legal lt number link show list =
    let after : List Change = after_change h (Attach e) in
    let own : rank_at after e.number ≡ suc (length h) = own_rank h e number in
    let up : (n x : ℕ) → Leads after (suc (length h)) n x → Leads after (length after) n x
    = λ n x l. subst (λ (k : ℕ). Leads after k n x) (sym (length-after_change h (Attach e))) l in
    let top : Leads after (length after) (rank_at after e.number) (get_or next e.slot 0) =
    subst (λ (n : ℕ). Leads after (length after) n (get_or next e.slot 0)) (sym own)
    (subst (Leads after (length after) (suc (length h))) (sym link) (up (suc (length h)) head (leads_attach h e (suc (length h)) head number (omega arith) list.first))) in
    record {
      first = up (suc (length after)) (suc e.slot)
          (To_entry e (new_live h e legal number) (omega (arith, own, length-after_change h (Attach e))) (λ f lf low. either (live_cases h e f number lf)
          (λ same. omega (arith, ap (λ (g : Entry). rank_at after g.number) same))
          (λ old. omega (arith, own, then_rank h (Attach e) f old, rank_low h legal f.number, old.begun))));
      links = λ u f is. either (slot_cases slots e.slot (Live e) u lt)
          (λ same.
          let one : e ≡ f = (let q : Live e ≡ Live f = sym same.1 ∙ is in cc) in
          subst (λ (g : Entry). Leads after (length after) (rank_at after g.number) (get_or next u 0)) one
          (subst (λ (v : ℕ). Leads after (length after) (rank_at after e.number) (get_or next v 0)) (sym same.0) top))
          (λ off.
          let at : slot_at slots u ≡ Live f = sym off.1 ∙ is in
          let lf : IsLiveAt h (length h) f = (show.live u f at).0 in
          subst (λ (n : ℕ). Leads after (length after) n (get_or next u 0)) (sym (then_rank h (Attach e) f lf))
          (up (rank_at h f.number) (get_or next u 0)
          (leads_attach h e (rank_at h f.number) (get_or next u 0) number (omega (arith, rank_low h legal f.number, lf.begun)) (list.links u f at))));
    }

-- an entry that a section may hold has its slot after the change c, which brings e into its own
pub held_more : (h : List Change) (c : Change) (slots : List Slot) (begins : List (Option ℕ)) (e : Entry) → brought_by (Some c) ≡ Some e → e.slot < length slots → slot_at slots e.slot ≡ Vacant
    → HeldStay h slots begins → HeldStay (after_change h c) (set slots e.slot (Live e)) begins
held_more h c slots begins e brings lt vacant held d b f is hold = either (attach_cases h c f hold.attached)
    (λ old.
    let was : IsIn f (slot_at slots f.slot) = held d b f is (hold_was h c b f hold old.old) in
    either (slot_cases slots e.slot (Live e) f.slot lt)
    (λ same. absurd (not_vacant f (slot_at slots f.slot) (ap (slot_at slots) same.0 ∙ vacant) was))
    (λ off. subst (IsIn f) (sym off.1) was))
    (λ new.
    let one : e ≡ f = same_Some e f (sym brings ∙ new.is) in
    subst (λ (g : Entry). IsIn g (slot_at (set slots e.slot (Live e)) g.slot)) one (inl (get_or-set_same slots e.slot (Live e) Vacant lt)))

pub held_attach : (h : List Change) (slots : List Slot) (begins : List (Option ℕ)) (e : Entry) → e.slot < length slots → slot_at slots e.slot ≡ Vacant → e.number ≡ suc (length h)
    → HeldStay h slots begins → HeldStay (after_change h (Attach e)) (set slots e.slot (Live e)) begins
held_attach h slots begins e lt vacant number held = held_more h (Attach e) slots begins e refl lt vacant held

-- what is retired after the publishing was so before
pub retired_before : (slots : List Slot) (e : Entry) (u : ℕ) (f : Entry) → e.slot < length slots → slot_at (set slots e.slot (Live e)) u ≡ Retired f → slot_at slots u ≡ Retired f
retired_before slots e u f lt is = grind (arith, slot_cases)

-- a frozen link leads on as it did
pub frozen_old : (h : List Change) (c : Change) (p x : ℕ) (f : Entry) → IsLegal h → EndsAt h f.number p → Leads h p (rank_at h f.number) x → Leads (after_change h c) p (rank_at (after_change h c) f.number) x
frozen_old h c p x f legal ends leads =
    let within = ended_within h f.number p ends in
    subst (λ (n : ℕ). Leads (after_change h c) p n x) (sym (rank_old h c f.number (omega (arith, within.1, ends_after h legal f.number p ends))))
    (leads_old h c p (rank_at h f.number) x within.1 leads)

pub links_attach : (h : List Change) (slots : List Slot) (next : List ℕ) (begins : List (Option ℕ)) (e : Entry) → IsLegal h → e.slot < length slots
    → LinksStay h slots next begins → LinksStay (after_change h (Attach e)) (set slots e.slot (Live e)) next begins
links_attach h slots next begins e legal lt links u p c b f is ends in_ low =
    let was = ends_before h e f.number p ends in
    frozen_old h (Attach e) p (get_or next u 0) f legal was.1 (links u p c b f (retired_before slots e u f lt is) was.1 in_ low)

pub marks_attach : (h : List Change) (slots : List Slot) (marks : List (List Mark)) (section : List ℕ) (begins : List (Option ℕ)) (e : Entry) → e.slot < length slots
    → MarksHold h slots marks section begins → MarksHold (after_change h (Attach e)) (set slots e.slot (Live e)) marks section begins
marks_attach h slots marks section begins e lt m = grind (arith, retired_before, ends_before)

-- An entry is unlinked, in the middle of the list or at its head.

-- an attach is an older one
pub attached_before : (h : List Change) (n : ℕ) (f : Entry) → IsAttached (after_change h (Detach n)) f → (f.number ≤ length h) × IsAttached h f
attached_before h n f x = either (attach_cases h (Detach n) f x) (λ old. (old.old, old.was)) (λ new. absurd (none-some f new.is))

pub legal_detach : (h : List Change) (e : Entry) → IsLegal h → IsLiveAt h (length h) e → IsLegal (after_change h (Detach e.number))
legal_detach h e legal live = legal_more h (Detach e.number) legal
    (λ f is. absurd (none-some f is))
    (λ f g is lg same. absurd (let q : Detach e.number ≡ Attach f = is in cc))
    (λ f g is lg same. absurd (none-some f is))
    (λ n is. (e, live, same_Some e.number n is))
    (λ n r f g is lg same. absurd (let q : Detach e.number ≡ Replace n r f = is in cc))

-- what is live after the detach: all that was, except e
pub still_there : (h : List Change) (e f : Entry) → IsLiveAt h (length h) f → f.number ≢ e.number → IsLiveAt (after_change h (Detach e.number)) (suc (length h)) f
still_there h e f live off = record {
  attached = attached_old h (Detach e.number) f live.attached;
  begun = omega (arith, live.begun);
  unended = λ p x. either (end_cases h (Detach e.number) f.number p x)
      (λ old. omega (arith, old.old, live.unended p old.was))
      (λ new. absurd (off (sym (same_Some e.number f.number new.is))));
}

pub was_there : (h : List Change) (e f : Entry) → IsLiveAt (after_change h (Detach e.number)) (suc (length h)) f → IsLiveAt h (length h) f × (f.number ≢ e.number)
was_there h e f live =
    let att = attached_before h e.number f live.attached in (
      live_was h (Detach e.number) (length h) f (omega arith) (live_down (after_change h (Detach e.number)) (suc (length h)) (length h) f live att.0 (omega arith)),
      λ same. omega (arith, live.unended (suc (length h)) (ap ended_by (at_new h (Detach e.number)) ∙ ap (λ (n : ℕ). Some n) (sym same))),
    )

-- of two live entries with two numbers the ranks differ
ranks_differ : (h : List Change) → IsLegal h → (e f : Entry) → IsLiveAt h (length h) e → IsLiveAt h (length h) f → f.number ≢ e.number → rank_at h f.number ≢ rank_at h e.number
ranks_differ h legal e f le lf off same = off (ap (λ (g : Entry). g.number) (one_rank h legal (length h) f e lf le same))

-- a link that doesn't lead to e leads on as it did
pub leads_past : (h : List Change) (e : Entry) (n x : ℕ) → IsLiveAt h (length h) e → (x ≡ suc e.slot → ⊥) → Leads h (length h) n x → Leads (after_change h (Detach e.number)) (suc (length h)) n x
leads_past h e n zero le off (To_end none) =
    To_end (λ f live lt. let was = was_there h e f live in none f was.0 (omega (arith, lt, then_rank h (Detach e.number) f was.0)))
leads_past h e n _ le off (To_entry g live lt most) = To_entry g
    (still_there h e g live (λ same. off (ap (λ (i : Entry). suc i.slot) (one_entry h g e live.attached le.attached same)))) (omega (arith, lt, then_rank h (Detach e.number) g live))
    (λ f lf low.
    let was = was_there h e f lf in
    let rank = then_rank h (Detach e.number) f was.0 in
    omega (arith, rank, then_rank h (Detach e.number) g live, most f was.0 (omega (arith, low, rank))))

-- of a link below e the same holds
pub leads_under : (h : List Change) (e : Entry) (n x : ℕ) → n ≤ rank_at h e.number → Leads h (length h) n x → Leads (after_change h (Detach e.number)) (suc (length h)) n x
leads_under h e n zero le (To_end none) =
    To_end (λ f live lt. let was = was_there h e f live in none f was.0 (omega (arith, lt, then_rank h (Detach e.number) f was.0)))
leads_under h e n _ le (To_entry g live lt most) = To_entry g
    (still_there h e g live (λ same. omega (arith, lt, le, ap (rank_at h) same))) (omega (arith, lt, then_rank h (Detach e.number) g live))
    (λ f lf low.
    let was = was_there h e f lf in
    let rank = then_rank h (Detach e.number) f was.0 in
    omega (arith, rank, then_rank h (Detach e.number) g live, most f was.0 (omega (arith, low, rank))))

-- and a link that led to e takes e's own link
pub leads_over : (h : List Change) (e : Entry) (n y : ℕ) → IsLegal h → IsLiveAt h (length h) e → rank_at h e.number < n
    → ((f : Entry) → IsLiveAt h (length h) f → rank_at h f.number < n → rank_at h f.number ≤ rank_at h e.number)
    → Leads h (length h) (rank_at h e.number) y → Leads (after_change h (Detach e.number)) (suc (length h)) n y
leads_over h e n zero legal le lt top (To_end none) = To_end (λ f live low.
    let was = was_there h e f live in
    let rank = then_rank h (Detach e.number) f was.0 in
    none f was.0 (omega (arith, top f was.0 (omega (arith, low, rank)), ranks_differ h legal e f le was.0 was.1)))
leads_over h e n _ legal le lt top (To_entry g live under most) = To_entry g
    (still_there h e g live (λ same. omega (arith, under, ap (rank_at h) same))) (omega (arith, under, lt, then_rank h (Detach e.number) g live))
    (λ f lf low.
    let was = was_there h e f lf in
    let rank = then_rank h (Detach e.number) f was.0 in
    omega (arith, rank, then_rank h (Detach e.number) g live, most f was.0 (omega (arith, top f was.0 (omega (arith, low, rank)), ranks_differ h legal e f le was.0 was.1))))

-- what a link to the slot of e says of e
pub link_to : (h : List Change) (slots : List Slot) (e : Entry) (n x : ℕ) → SlotsShow h slots → slot_at slots e.slot ≡ Live e → x ≡ suc e.slot → Leads h (length h) n x
    → (rank_at h e.number < n) × ((f : Entry) → IsLiveAt h (length h) f → rank_at h f.number < n → rank_at h f.number ≤ rank_at h e.number)
link_to h slots e n zero show at is (To_end none) = absurd (omega (arith, is))
link_to h slots e n _ show at is (To_entry g live lt most) =
    let slot : g.slot ≡ e.slot = omega (arith, is) in
    let one : g ≡ e = (let q : Live g ≡ Live e = sym (show.placed g live) ∙ (ap (slot_at slots) slot ∙ at) in cc) in
    let rank : rank_at h g.number ≡ rank_at h e.number = ap (λ (i : Entry). rank_at h i.number) one in
    (omega (arith, lt, rank), λ f lf low. omega (arith, most f lf low, rank))

-- Some link leads to each live entry.
pub find_link : (h : List Change) (slots : List Slot) (head : ℕ) (next : List ℕ) (e : Entry) → IsLegal h → SlotsShow h slots → ListShows h slots head next → IsLiveAt h (length h) e
    → (fuel n x : ℕ) → n ≤ rank_at h e.number + fuel → rank_at h e.number < n → Leads h (length h) n x
    → (x ≡ suc e.slot) ⊎ ((g : Entry) × (slot_at slots g.slot ≡ Live g) × (get_or next g.slot 0 ≡ suc e.slot))
find_link h slots head next e legal show list live zero n x le lt l = absurd (omega arith)
find_link h slots head next e legal show list live (suc fuel) n zero le lt (To_end none) = absurd (none e live lt)
find_link h slots head next e legal show list live (suc fuel) n _ le lt (To_entry g lg low most) =
    let at : slot_at slots g.slot ≡ Live g = show.placed g lg in
    let above : rank_at h e.number ≤ rank_at h g.number = most e live lt in
    either (cases_eq (rank_at h g.number) (rank_at h e.number))
    (λ same. inl (ap (λ (i : Entry). suc i.slot) (one_rank h legal (length h) g e lg live same)))
    (λ off. either (find_link h slots head next e legal show list live fuel (rank_at h g.number) (get_or next g.slot 0) (omega arith) (omega arith) (list.links g.slot g at))
    (λ here. inr (g, at, here))
    (λ further. inr further))

pub live_entry : (x : Slot) → is_live x ≡ true → (g : Entry) × (x ≡ Live g)
live_entry x is = grind arith

pub within_live : (slots : List Slot) (t : ℕ) (e : Entry) → slot_at slots t ≡ Live e → t < length slots
within_live slots t e is = either (cases_lt t (length slots)) (λ lt. lt) (λ ge. absurd (let q : Vacant ≡ Live e = sym (get_or_past slots t Vacant ge) ∙ is in cc))

pub within_retired : (slots : List Slot) (t : ℕ) (e : Entry) → slot_at slots t ≡ Retired e → t < length slots
within_retired slots t e is = either (cases_lt t (length slots)) (λ lt. lt) (λ ge. absurd (let q : Vacant ≡ Retired e = sym (get_or_past slots t Vacant ge) ∙ is in cc))

zip_at : (slots : List Slot) (next : List ℕ) (u : ℕ) → length next ≡ length slots → u < length slots
    → (u < length (zip slots next)) × (get_or (zip slots next) u (Vacant, 0) ≡ (slot_at slots u, get_or next u 0))
zip_at slots next u size lt = (omega (arith, length-zip slots next), get_or-zip slots next u (Vacant, 0) lt (omega arith))

-- the slot before t is a live one whose link leads to t
pub before_leads : (slots : List Slot) (next : List ℕ) (t p : ℕ) → length next ≡ length slots → slot_before slots next t ≡ Some p → (g : Entry) × (slot_at slots p ≡ Live g) × (get_or next p 0 ≡ suc t)
before_leads slots next t p size is =
    let at = position-Some (leads_to (t + 1)) (zip slots next) p (Vacant, 0) is in
    let pair = zip_at slots next p size (omega (arith, at.0, length-zip slots next)) in
    let test : leads_to (t + 1) (slot_at slots p, get_or next p 0) ≡ true = subst (λ (q : Slot × ℕ). leads_to (t + 1) q ≡ true) pair.1 at.1 in
    let parts = and_parts (is_live (slot_at slots p)) (get_or next p 0 == (t + 1)) test in
    let g = live_entry (slot_at slots p) parts.0 in
    (g.0, g.1, omega (arith, eqb-true (get_or next p 0) (t + 1) parts.1))

-- where there is none, the head leads to e
pub head_leads : (h : List Change) (slots : List Slot) (head : ℕ) (next : List ℕ) (e : Entry) → IsLegal h → SlotsShow h slots → ListShows h slots head next → length next ≡ length slots
    → slot_at slots e.slot ≡ Live e
    → slot_before slots next e.slot ≡ None → head ≡ suc e.slot
head_leads h slots head next e legal show list size at none =
    let live : IsLiveAt h (length h) e = (show.live e.slot e at).0 in
    either (find_link h slots head next e legal show list live (suc (length h)) (suc (length h)) head (omega arith) (omega (arith, live.begun, rank_low h legal e.number)) list.first)
    (λ here. here)
    (λ there.
    let pair = zip_at slots next there.0.slot size (within_live slots there.0.slot there.0 there.1) in
    let test : leads_to (e.slot + 1) (slot_at slots there.0.slot, get_or next there.0.slot 0) ≡ true =
    and_from (is_live (slot_at slots there.0.slot)) (get_or next there.0.slot 0 == (e.slot + 1)) (ap is_live there.1) (eq-eqb (get_or next there.0.slot 0) (e.slot + 1) (omega (arith, there.2))) in
    absurd (position_fails (leads_to (e.slot + 1)) (zip slots next) there.0.slot (Vacant, 0) none pair.0 (subst (λ (q : Slot × ℕ). leads_to (e.slot + 1) q ≡ true) (sym pair.1) test)))

-- where there is one, the head doesn't
pub head_leads_on : (h : List Change) (slots : List Slot) (head : ℕ) (next : List ℕ) (e g : Entry) (p : ℕ) → IsLegal h → SlotsShow h slots → ListShows h slots head next → slot_at slots e.slot ≡ Live e
    → slot_at slots p ≡ Live g → get_or next p 0 ≡ suc e.slot → head ≡ suc e.slot → ⊥
head_leads_on h slots head next e g p legal show list at before_at before_to is =
    let lg = show.live p g before_at in
    let top = link_to h slots e (suc (length h)) head show at is list.first in
    let low = link_to h slots e (rank_at h g.number) (get_or next p 0) show at before_to (list.links p g before_at) in
    omega (arith, low.0, top.1 g lg.0 (omega (arith, lg.0.begun, rank_low h legal g.number)))

-- of two live entries whose links lead to e, one is enough
pub one_before : (h : List Change) (slots : List Slot) (head : ℕ) (next : List ℕ) (e f g : Entry) (u p : ℕ) → IsLegal h → SlotsShow h slots → ListShows h slots head next → slot_at slots e.slot ≡ Live e
    → slot_at slots u ≡ Live f → get_or next u 0 ≡ suc e.slot → slot_at slots p ≡ Live g → get_or next p 0 ≡ suc e.slot → u ≡ p
one_before h slots head next e f g u p legal show list at f_at f_to g_at g_to =
    let lf = show.live u f f_at in
    let lg = show.live p g g_at in
    let by_f = link_to h slots e (rank_at h f.number) (get_or next u 0) show at f_to (list.links u f f_at) in
    let by_g = link_to h slots e (rank_at h g.number) (get_or next p 0) show at g_to (list.links p g g_at) in
    either (cases_eq (rank_at h f.number) (rank_at h g.number))
    (λ same. sym lf.1 ∙ (ap (λ (i : Entry). i.slot) (one_rank h legal (length h) f g lf.0 lg.0 same) ∙ lg.1))
    (λ off. either (cases_lt (rank_at h f.number) (rank_at h g.number))
    (λ lt. absurd (omega (arith, by_g.1 f lf.0 lt, by_f.0)))
    (λ ge. absurd (omega (arith, off, ge, by_f.1 g lg.0 (omega (arith, off, ge)), by_g.0))))

-- What a store to the link that leads to e changes: each link that led there is `now`, and the others stay.
pub record LeadsNow (slots : List Slot) (e : Entry) (head : ℕ) (next : List ℕ) (new_head : ℕ) (new_next : List ℕ) (now : ℕ) : Type 0 where
  pub first : head ≡ suc e.slot → new_head ≡ now
  pub first_stays : (head ≡ suc e.slot → ⊥) → new_head ≡ head
  pub links : (u : ℕ) (f : Entry) → slot_at slots u ≡ Live f → get_or next u 0 ≡ suc e.slot → get_or new_next u 0 ≡ now
  pub links_stay : (u : ℕ) (f : Entry) → slot_at slots u ≡ Live f → (get_or next u 0 ≡ suc e.slot → ⊥) → get_or new_next u 0 ≡ get_or next u 0

pub at_head : (h : List Change) (slots : List Slot) (head : ℕ) (next : List ℕ) (e : Entry) (now : ℕ) → IsLegal h → SlotsShow h slots → ListShows h slots head next → slot_at slots e.slot ≡ Live e
    → head ≡ suc e.slot → LeadsNow slots e head next now next now
at_head h slots head next e now legal show list at is = record {
  first = λ same. refl;
  first_stays = λ off. absurd (off is);
  links = λ u f f_at f_to. absurd (head_leads_on h slots head next e f u legal show list at f_at f_to is);
  links_stay = λ u f f_at off. refl;
}

pub at_link : (h : List Change) (slots : List Slot) (head : ℕ) (next : List ℕ) (e g : Entry) (q now : ℕ) → IsLegal h → SlotsShow h slots → ListShows h slots head next → length next ≡ length slots
    → slot_at slots e.slot ≡ Live e → slot_at slots q ≡ Live g → get_or next q 0 ≡ suc e.slot → LeadsNow slots e head next head (set next q now) now
at_link h slots head next e g q now legal show list size at before_at before_to =
    let ql : q < length next = omega (arith, size, within_live slots q g before_at) in
    record {
      first = λ same. absurd (head_leads_on h slots head next e g q legal show list at before_at before_to same);
      first_stays = λ off. refl;
      links = λ u f f_at f_to. ap (λ (k : ℕ). get_or (set next q now) k 0) (one_before h slots head next e f g u q legal show list at f_at f_to before_at before_to) ∙ get_or-set_same next q now 0 ql;
      links_stay = λ u f f_at off. get_or-set_other next q u now 0 (λ same. off (ap (λ (k : ℕ). get_or next k 0) same ∙ before_to));
    }

-- What is live after the detach is in another slot, and was live.
pub live_before : (slots : List Slot) (e f : Entry) (u : ℕ) → e.slot < length slots → slot_at (set slots e.slot (Retired e)) u ≡ Live f → (u ≡ e.slot → ⊥) × (slot_at slots u ≡ Live f)
live_before slots e f u lt is = grind (arith, slot_cases)

pub gone_before : (slots : List Slot) (e f : Entry) (u : ℕ) → e.slot < length slots → slot_at (set slots e.slot (Retired e)) u ≡ Retired f
    → ((u ≡ e.slot) × (f ≡ e)) ⊎ ((u ≡ e.slot → ⊥) × (slot_at slots u ≡ Retired f))
gone_before slots e f u lt is = grind (arith, slot_cases)

pub slots_detach : (h : List Change) (slots : List Slot) (e : Entry) → IsLegal h → slot_at slots e.slot ≡ Live e → SlotsShow h slots
    → SlotsShow (after_change h (Detach e.number)) (set slots e.slot (Retired e))
slots_detach h slots e legal at show =
    let lt : e.slot < length slots = within_live slots e.slot e at in
    let le : IsLiveAt h (length h) e = (show.live e.slot e at).0 in
    let size : length (after_change h (Detach e.number)) ≡ suc (length h) = length-after_change h (Detach e.number) in
    record {
      live = λ u f is. grind (arith, live_before slots e f u lt is, show.live u f, one_entry h f e, still_there h e f, size);
      placed = grind (arith, was_there, get_or-set_other);
      retired = λ u f is. either (gone_before slots e f u lt is)
          (λ same. subst (λ (g : Entry). IsAttached (after_change h (Detach e.number)) g × (g.slot ≡ u) × ((p : ℕ) × EndsAt (after_change h (Detach e.number)) g.number p)) (sym same.1)
          (attached_old h (Detach e.number) e le.attached, sym same.0, (suc (length h), ap ended_by (at_new h (Detach e.number)))))
          (λ off.
          let was = show.retired u f off.1 in
          (attached_old h (Detach e.number) f was.0, was.1, (was.2.0, ends_old h (Detach e.number) f.number was.2.0 was.2.1)));
    }

pub rows_detach : (slots : List Slot) (rows : List RecordWords) (e : Entry) → slot_at slots e.slot ≡ Live e → RowsShow slots rows → RowsShow (set slots e.slot (Retired e)) rows
rows_detach slots rows e at show u f is = either is
    (λ live. show u f (inl (live_before slots e f u (within_live slots e.slot e at) live).1))
    (λ gone. either (gone_before slots e f u (within_live slots e.slot e at) gone)
    (λ same. show u f (inl (ap (slot_at slots) same.0 ∙ (at ∙ ap Live (sym same.1)))))
    (λ off. show u f (inr off.1)))

pub held_detach : (h : List Change) (slots : List Slot) (begins : List (Option ℕ)) (e : Entry) → slot_at slots e.slot ≡ Live e → HeldStay h slots begins
    → HeldStay (after_change h (Detach e.number)) (set slots e.slot (Retired e)) begins
held_detach h slots begins e at held c b f is hold =
    let lt : e.slot < length slots = within_live slots e.slot e at in
    let was : IsIn f (slot_at slots f.slot) = held c b f is (hold_was h (Detach e.number) b f hold (attached_before h e.number f hold.attached).0) in
    grind (arith, slot_cases, live_one)

-- The end of another entry is an older one.
pub end_before : (h : List Change) (slots : List Slot) (e f : Entry) (u p : ℕ) → SlotsShow h slots → IsLiveAt h (length h) e → slot_at slots u ≡ Retired f
    → EndsAt (after_change h (Detach e.number)) f.number p
    → (p ≤ length h) × EndsAt h f.number p
end_before h slots e f u p show le gone ends = either (end_cases h (Detach e.number) f.number p ends)
    (λ old. (old.old, old.was))
    (λ new.
    let was = show.retired u f gone in
    let same : e.number ≡ f.number = same_Some e.number f.number new.is in
    absurd (omega (arith, le.unended was.2.0 (subst (λ (n : ℕ). EndsAt h n was.2.0) (sym same) was.2.1), (ended_within h f.number was.2.0 was.2.1).1)))

-- the links of unlinked entries, where only links of live slots may have been written
pub links_detach : (h : List Change) (slots : List Slot) (head : ℕ) (next now : List ℕ) (begins : List (Option ℕ)) (e : Entry) → IsLegal h → slot_at slots e.slot ≡ Live e → SlotsShow h slots
    → ListShows h slots head next
    → ((u : ℕ) (f : Entry) → IsIn f (slot_at slots u) → ((slot_at slots u ≡ Live f) → (u ≡ e.slot)) → get_or now u 0 ≡ get_or next u 0)
    → LinksStay h slots next begins → LinksStay (after_change h (Detach e.number)) (set slots e.slot (Retired e)) now begins
links_detach h slots head next now begins e legal at show list kept links u p c b f is ends in_ low =
    let lt : e.slot < length slots = within_live slots e.slot e at in
    let le : IsLiveAt h (length h) e = (show.live e.slot e at).0 in
    let after : List Change = after_change h (Detach e.number) in
    either (gone_before slots e f u lt is)
    (λ same.
    let here : EndsAt after f.number (suc (length h)) = ap ended_by (at_new h (Detach e.number)) ∙ ap (λ (g : Entry). Some g.number) (sym same.1) in
    let end : suc (length h) ≡ p = one_end after (legal_detach h e legal le) f.number (suc (length h)) p here ends in
    let own : slot_at slots u ≡ Live f = ap (slot_at slots) same.0 ∙ (at ∙ ap Live (sym same.1)) in
    let word : get_or now u 0 ≡ get_or next e.slot 0 = kept u f (inl own) (λ live. same.0) ∙ ap (λ (k : ℕ). get_or next k 0) same.0 in
    let rank : rank_at after f.number ≡ rank_at h e.number = ap (λ (g : Entry). rank_at after g.number) same.1 ∙ then_rank h (Detach e.number) e le in
    subst (λ (k : ℕ). Leads after k (rank_at after f.number) (get_or now u 0)) end
    (subst (λ (n : ℕ). Leads after (suc (length h)) n (get_or now u 0)) (sym rank)
    (subst (Leads after (suc (length h)) (rank_at h e.number)) (sym word)
    (leads_under h e (rank_at h e.number) (get_or next e.slot 0) (omega arith) (list.links e.slot e at)))))
    (λ off.
    let was = end_before h slots e f u p show le off.1 ends in
    let word : get_or now u 0 ≡ get_or next u 0 = kept u f (inr off.1) (λ live. absurd (let q : Live f ≡ Retired f = sym live ∙ off.1 in cc)) in
    subst (Leads after p (rank_at after f.number)) (sym word) (frozen_old h (Detach e.number) p (get_or next u 0) f legal was.1 (links u p c b f off.1 was.1 in_ low)))

-- The list without e: what led to e leads past it.
leads_unlinked : (h : List Change) (slots : List Slot) (e : Entry) (n x y link : ℕ) → IsLegal h → SlotsShow h slots → slot_at slots e.slot ≡ Live e → Leads h (length h) (rank_at h e.number) link
    → (x ≡ suc e.slot → y ≡ link) → ((x ≡ suc e.slot → ⊥) → y ≡ x) → Leads h (length h) n x → Leads (after_change h (Detach e.number)) (suc (length h)) n y
leads_unlinked h slots e n x y link legal show at own led other leads =
    let le : IsLiveAt h (length h) e = (show.live e.slot e at).0 in
    either (cases_eq x (suc e.slot))
    (λ same.
    let top = link_to h slots e n x show at same leads in
    subst (Leads (after_change h (Detach e.number)) (suc (length h)) n) (sym (led same)) (leads_over h e n link legal le top.0 top.1 own))
    (λ off. subst (Leads (after_change h (Detach e.number)) (suc (length h)) n) (sym (other off)) (leads_past h e n x le off leads))

leads_first : (h : List Change) (e : Entry) (x : ℕ) → IsLegal h → Leads (after_change h (Detach e.number)) (suc (length h)) (suc (length h)) x
    → Leads (after_change h (Detach e.number)) (suc (length h)) (suc (suc (length h))) x
leads_first h e zero legal (To_end none) = To_end (λ f live low.
    let was = was_there h e f live in
    none f live (omega (arith, then_rank h (Detach e.number) f was.0, rank_low h legal f.number, was.0.begun)))
leads_first h e _ legal (To_entry i live low most) = To_entry i live (omega (arith, low)) (λ f lf high.
    let was = was_there h e f lf in
    most f lf (omega (arith, then_rank h (Detach e.number) f was.0, rank_low h legal f.number, was.0.begun)))

pub list_unlink : (h : List Change) (slots : List Slot) (head : ℕ) (next : List ℕ) (new_head : ℕ) (new_next : List ℕ) (e : Entry) → IsLegal h → slot_at slots e.slot ≡ Live e → SlotsShow h slots
    → ListShows h slots head next → LeadsNow slots e head next new_head new_next (get_or next e.slot 0)
    → ListShows (after_change h (Detach e.number)) (set slots e.slot (Retired e)) new_head new_next
list_unlink h slots head next new_head new_next e legal at show list now =
    let lt : e.slot < length slots = within_live slots e.slot e at in
    let after : List Change = after_change h (Detach e.number) in
    let size : length after ≡ suc (length h) = length-after_change h (Detach e.number) in
    let own : Leads h (length h) (rank_at h e.number) (get_or next e.slot 0) = list.links e.slot e at in
    record {
      first = subst (λ (n : ℕ). Leads after n (suc n) new_head) (sym size)
          (leads_first h e new_head legal (leads_unlinked h slots e (suc (length h)) head new_head (get_or next e.slot 0) legal show at own now.first now.first_stays list.first));
      links = λ u f live.
          let was = live_before slots e f u lt live in
          let lf : IsLiveAt h (length h) f = (show.live u f was.1).0 in
          subst (λ (n : ℕ). Leads after (length after) n (get_or new_next u 0)) (sym (then_rank h (Detach e.number) f lf))
          (subst (λ (k : ℕ). Leads after k (rank_at h f.number) (get_or new_next u 0)) (sym size)
          (leads_unlinked h slots e (rank_at h f.number) (get_or next u 0) (get_or new_next u 0) (get_or next e.slot 0) legal show at own (now.links u f was.1) (now.links_stay u f was.1) (list.links u f was.1)));
    }
