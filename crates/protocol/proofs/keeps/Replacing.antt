-- An entry takes another's place: what that keeps of the invariant.
use Rattle.std.proofs.Common.{Bool, false, List, None, Option, Some, [], ap, arith, get_or, get_or-set_other, get_or-set_same, inl, inr, length, length-set, refl, replicate, set, subst, suc, sym, true, zero, ℕ, ◌==◌, ◌&&◌, ◌+◌, ◌<◌, ◌∙◌, ◌≡◌, ◌≢◌, ◌≤◌, ◌⊎◌}
use Rattle.std.proofs.lemmas.Bool.{and_parts, cases_eq, eqb-true, leb-true}
use Rattle.std.proofs.lemmas.Option.{none-some, same_Some}
use Rattle.protocol.specs.Types.{MOST_CPUS, Attach, Replace, Change, Entry, Mark, Slot, Live, Retired, Vacant}
use Rattle.registry_values.specs.Common.{key_of, live_count, same_key, slot_at, slot_before, bias, no_mark}
use Rattle.registry_values.specs.Names.{are_key_words}
use Rattle.registry_values.proofs.Slots.{key_from}
use Rattle.protocol.specs.Common.{ended_by, after_change, after_republish, are_unused, entry_of, has_room, keeps_rightly, may_republish, may_write, with_link_to, with_replaced, words_of, EndsAt, HeldStay, Holds, IsAttached, IsIn, IsLegal, IsLiveAt, Leads, LinksStay, ListShows, MarksHold, RowsShow, SlotsShow, SnapshotsStand, To_end, To_entry, State, kept_at, mark_at, row_at, Rest}
use Rattle.protocol.specs.History.{rank_at}
use Rattle.protocol.proofs.Occupied.{slot_cases, live_one}
use Rattle.protocol.proofs.Cells.{get_or_all}
use Rattle.protocol.proofs.Either.{either}
use Rattle.protocol.proofs.History.{attach_cases, end_cases, ended_within, at_new, attached_old, ends_after, ends_old, found_old, length-after_change, live_down, live_was, one_end, one_entry, rank_low, rank_then, searches_old, sections_old}
use Rattle.protocol.proofs.keeps.Linking.{LeadsNow, at_head, at_link, before_leads, frozen_old, head_leads, held_more, legal_more, link_to, new_attached, new_rank, retired_before, rows_attach, rows_detach, within_live}
use Rattle.protocol.proofs.keeps.ListKeeps.{CountsOf, DriversOf, ReferencesOf, entry_shows, live_count_put, may_write_tells, rows_put}
use Rattle.protocol.proofs.keeps.Marking.{passive_attach, passive_detach, snapshots_detach}

-- the change that puts e in f's place
abbrev pub swap : List Change → Entry → Entry → Change
swap h f e = Replace f.number (rank_at h f.number) e

abbrev pub after_swap : List Change → Entry → Entry → List Change
after_swap h f e = after_change h (swap h f e)

abbrev pub slots_after : List Slot → Entry → Entry → List Slot
slots_after slots f e = set (set slots e.slot (Live e)) f.slot (Retired f)

-- what is asked of the two
pub record MaySwap (h : List Change) (slots : List Slot) (f e : Entry) : Type 0 where
  pub legal : IsLegal h
  pub show : SlotsShow h slots
  pub old : slot_at slots f.slot ≡ Live f
  pub within : e.slot < length slots
  pub vacant : slot_at slots e.slot ≡ Vacant
  pub number : e.number ≡ suc (length h)
  pub key : key_of f ≡ key_of e

old_live : (h : List Change) (slots : List Slot) (f e : Entry) → MaySwap h slots f e → IsLiveAt h (length h) f
old_live h slots f e m = (m.show.live f.slot f m.old).0

two_slots : (h : List Change) (slots : List Slot) (f e : Entry) → MaySwap h slots f e → f.slot ≡ e.slot → ⊥
two_slots h slots f e m same = let q : Live f ≡ Vacant = sym m.old ∙ (ap (slot_at slots) same ∙ m.vacant) in cc

-- Slots

-- the slot of f, once e is in its own
pub old_still : (h : List Change) (slots : List Slot) (f e : Entry) → MaySwap h slots f e → slot_at (set slots e.slot (Live e)) f.slot ≡ Live f
old_still h slots f e m = get_or-set_other slots e.slot f.slot (Live e) Vacant (two_slots h slots f e m) ∙ m.old

pub old_within : (h : List Change) (slots : List Slot) (f e : Entry) → MaySwap h slots f e → f.slot < length (set slots e.slot (Live e))
old_within h slots f e m = within_live (set slots e.slot (Live e)) f.slot f (old_still h slots f e m)

pub live_after : (h : List Change) (slots : List Slot) (f e g : Entry) (u : ℕ) → MaySwap h slots f e → slot_at (slots_after slots f e) u ≡ Live g
    → ((u ≡ e.slot) × (g ≡ e)) ⊎ ((u ≡ f.slot → ⊥) × (slot_at slots u ≡ Live g))
live_after h slots f e g u m is = either (slot_cases (set slots e.slot (Live e)) f.slot (Retired f) u (old_within h slots f e m))
    (λ here. absurd (let q : Retired f ≡ Live g = sym here.1 ∙ is in cc))
    (λ off. either (slot_cases slots e.slot (Live e) u m.within)
    (λ new. let one : g ≡ e = (let q : Live g ≡ Live e = sym is ∙ (off.1 ∙ new.1) in cc) in inl (new.0, one))
    (λ old. inr (off.0, sym old.1 ∙ (sym off.1 ∙ is))))

pub gone_after : (h : List Change) (slots : List Slot) (f e g : Entry) (u : ℕ) → MaySwap h slots f e → slot_at (slots_after slots f e) u ≡ Retired g
    → ((u ≡ f.slot) × (g ≡ f)) ⊎ ((u ≡ f.slot → ⊥) × (slot_at slots u ≡ Retired g))
gone_after h slots f e g u m is = either (slot_cases (set slots e.slot (Live e)) f.slot (Retired f) u (old_within h slots f e m))
    (λ here. let one : g ≡ f = (let q : Retired g ≡ Retired f = sym is ∙ here.1 in cc) in inl (here.0, one))
    (λ off. inr (off.0, retired_before slots e u g m.within (sym off.1 ∙ is)))

-- The history

pub legal_swap : (h : List Change) (slots : List Slot) (f e : Entry) → MaySwap h slots f e → IsLegal (after_swap h f e)
legal_swap h slots f e m =
    let lf : IsLiveAt h (length h) f = old_live h slots f e m in
    legal_more h (swap h f e) m.legal
    (λ g is. ap (λ (i : Entry). i.number) (sym (same_Some e g is)) ∙ m.number)
    (λ g i is live same. absurd (let q : Replace f.number (rank_at h f.number) e ≡ Attach g = is in cc))
    (λ g i is live same.
    let at : i.slot ≡ e.slot = same ∙ ap (λ (j : Entry). j.slot) (sym (same_Some e g is)) in
    absurd (let q : Live i ≡ Vacant = sym (m.show.placed i live) ∙ (ap (slot_at slots) at ∙ m.vacant) in cc))
    (λ n is. (f, lf, same_Some f.number n is))
    (λ n r g i is live num.
    let q : Replace f.number (rank_at h f.number) e ≡ Replace n r g = is in
    let of : f.number ≡ n = cc in
    let rank : rank_at h f.number ≡ r = cc in
    let brings : e ≡ g = cc in
    let one : i ≡ f = one_entry h i f live.attached lf.attached (num ∙ sym of) in
    (ap key_of one ∙ (m.key ∙ ap key_of brings), sym rank ∙ ap (rank_at h) of))

swap_ends : (h : List Change) (f e : Entry) → EndsAt (after_swap h f e) f.number (suc (length h))
swap_ends h f e = ap ended_by (at_new h (swap h f e))

-- the end of another entry is an older one
end_then : (h : List Change) (f e g : Entry) (p : ℕ) → g.number ≢ f.number → EndsAt (after_swap h f e) g.number p → (p ≤ length h) × EndsAt h g.number p
end_then h f e g p off ends = either (end_cases h (swap h f e) g.number p ends)
    (λ old. (old.old, old.was))
    (λ new. absurd (off (sym (same_Some f.number g.number new.is))))

-- what is live then: e, and all that was but f
pub swap_cases : (h : List Change) (slots : List Slot) (f e g : Entry) → MaySwap h slots f e → IsLiveAt (after_swap h f e) (suc (length h)) g → (g ≡ e) ⊎ (IsLiveAt h (length h) g × (g.number ≢ f.number))
swap_cases h slots f e g m live = either (attach_cases h (swap h f e) g live.attached)
    (λ old. inr (
      live_was h (swap h f e) (length h) g (omega arith) (live_down (after_swap h f e) (suc (length h)) (length h) g live old.old (omega arith)),
      λ same. omega (arith, live.unended (suc (length h)) (swap_ends h f e ∙ ap (λ (n : ℕ). Some n) (sym same))),
    ))
    (λ new. inl (sym (same_Some e g new.is)))

stays_live : (h : List Change) (slots : List Slot) (f e g : Entry) → MaySwap h slots f e → IsLiveAt h (length h) g → g.number ≢ f.number → IsLiveAt (after_swap h f e) (suc (length h)) g
stays_live h slots f e g m live off = record {
  attached = attached_old h (swap h f e) g live.attached;
  begun = omega (arith, live.begun);
  unended = λ p x. let was = end_then h f e g p off x in omega (arith, was.0, live.unended p was.1);
}

comes_live : (h : List Change) (slots : List Slot) (f e : Entry) → MaySwap h slots f e → IsLiveAt (after_swap h f e) (suc (length h)) e
comes_live h slots f e m =
    let lf : IsLiveAt h (length h) f = old_live h slots f e m in
    record {
      attached = new_attached h (swap h f e) e refl m.number;
      begun = omega (arith, m.number);
      unended = λ p x.
          let was = end_then h f e e p (λ same. omega (arith, same, m.number, lf.begun)) x in
          omega (arith, m.number, was.0, ends_after h m.legal e.number p was.1);
    }

-- e has the rank of f, and the others have theirs
rank_taken : (h : List Change) (slots : List Slot) (f e : Entry) → MaySwap h slots f e → rank_at (after_swap h f e) e.number ≡ rank_at h f.number
rank_taken h slots f e m = new_rank h (swap h f e) e.number m.number

rank_kept : (h : List Change) (f e g : Entry) → IsLiveAt h (length h) g → rank_at (after_swap h f e) g.number ≡ rank_at h g.number
rank_kept h f e g live = rank_then h (swap h f e) (length h) g (omega arith) live.begun

pub slots_swap : (h : List Change) (slots : List Slot) (f e : Entry) → MaySwap h slots f e → SlotsShow (after_swap h f e) (slots_after slots f e)
slots_swap h slots f e m =
    let after : List Change = after_swap h f e in
    let size : length after ≡ suc (length h) = length-after_change h (swap h f e) in
    let now : (g : Entry) → IsLiveAt after (suc (length h)) g → IsLiveAt after (length after) g = λ g live. subst (λ (n : ℕ). IsLiveAt after n g) (sym size) live in
    record {
      live = λ u g is. either (live_after h slots f e g u m is)
          (λ new. subst (λ (i : Entry). IsLiveAt after (length after) i × (i.slot ≡ u)) (sym new.1) (now e (comes_live h slots f e m), sym new.0))
          (λ old.
          let was = m.show.live u g old.1 in
          let off : g.number ≢ f.number = λ same. old.0 (sym was.1 ∙ ap (λ (i : Entry). i.slot) (one_entry h g f was.0.attached (old_live h slots f e m).attached same)) in
          (now g (stays_live h slots f e g m was.0 off), was.1));
      placed = λ g live. either (swap_cases h slots f e g m (subst (λ (n : ℕ). IsLiveAt after n g) size live))
          (λ new. subst (λ (i : Entry). slot_at (slots_after slots f e) i.slot ≡ Live i) (sym new)
          (get_or-set_other (set slots e.slot (Live e)) f.slot e.slot (Retired f) Vacant (λ same. two_slots h slots f e m (sym same)) ∙ get_or-set_same slots e.slot (Live e) Vacant m.within))
          (λ old.
          let at : slot_at slots g.slot ≡ Live g = m.show.placed g old.0 in
          let off_e : g.slot ≡ e.slot → ⊥ = λ same. (let q : Live g ≡ Vacant = sym at ∙ (ap (slot_at slots) same ∙ m.vacant) in cc) in
          let off_f : g.slot ≡ f.slot → ⊥ = λ same. (let q : Live g ≡ Live f = sym at ∙ (ap (slot_at slots) same ∙ m.old) in
          let one : g ≡ f = cc in old.1 (ap (λ (i : Entry). i.number) one)) in
          get_or-set_other (set slots e.slot (Live e)) f.slot g.slot (Retired f) Vacant off_f ∙ (get_or-set_other slots e.slot g.slot (Live e) Vacant off_e ∙ at));
      retired = λ u g is. either (gone_after h slots f e g u m is)
          (λ same. subst (λ (i : Entry). IsAttached after i × (i.slot ≡ u) × ((p : ℕ) × EndsAt after i.number p)) (sym same.1)
          (attached_old h (swap h f e) f (old_live h slots f e m).attached, sym same.0, (suc (length h), swap_ends h f e)))
          (λ off.
          let was = m.show.retired u g off.1 in
          (attached_old h (swap h f e) g was.0, was.1, (was.2.0, ends_old h (swap h f e) g.number was.2.0 was.2.1)));
    }

-- The list

leads_kept : (h : List Change) (slots : List Slot) (f e : Entry) (n x : ℕ) → MaySwap h slots f e → (x ≡ suc f.slot → ⊥) → Leads h (length h) n x → Leads (after_swap h f e) (suc (length h)) n x
leads_kept h slots f e n zero m off (To_end none) = To_end (λ g live lt. either (swap_cases h slots f e g m live)
    (λ new. none f (old_live h slots f e m) (omega (arith, lt, ap (λ (i : Entry). rank_at (after_swap h f e) i.number) new, rank_taken h slots f e m)))
    (λ old. none g old.0 (omega (arith, lt, rank_kept h f e g old.0))))
leads_kept h slots f e n _ m off (To_entry i live lt most) =
    let lf : IsLiveAt h (length h) f = old_live h slots f e m in
    let other : i.number ≢ f.number = λ same. off (ap (λ (j : Entry). suc j.slot) (one_entry h i f live.attached lf.attached same)) in
    To_entry i (stays_live h slots f e i m live other) (omega (arith, lt, rank_kept h f e i live)) (λ g lg low. either (swap_cases h slots f e g m lg)
    (λ new.
    let rank : rank_at (after_swap h f e) g.number ≡ rank_at h f.number = ap (λ (j : Entry). rank_at (after_swap h f e) j.number) new ∙ rank_taken h slots f e m in
    omega (arith, rank, rank_kept h f e i live, most f lf (omega (arith, low, rank))))
    (λ old.
    let rank = rank_kept h f e g old.0 in
    omega (arith, rank, rank_kept h f e i live, most g old.0 (omega (arith, low, rank)))))

leads_taken : (h : List Change) (slots : List Slot) (f e : Entry) (n x : ℕ) → MaySwap h slots f e → x ≡ suc f.slot → Leads h (length h) n x → Leads (after_swap h f e) (suc (length h)) n (suc e.slot)
leads_taken h slots f e n x m is leads =
    let top = link_to h slots f n x m.show m.old is leads in
    let own = rank_taken h slots f e m in
    To_entry e (comes_live h slots f e m) (omega (arith, own, top.0)) (λ g lg low. either (swap_cases h slots f e g m lg)
    (λ new. omega (arith, ap (λ (j : Entry). rank_at (after_swap h f e) j.number) new))
    (λ old.
    let rank = rank_kept h f e g old.0 in
    omega (arith, own, rank, top.1 g old.0 (omega (arith, low, rank)))))

leads_swapped : (h : List Change) (slots : List Slot) (f e : Entry) (n x y : ℕ) → MaySwap h slots f e → (x ≡ suc f.slot → y ≡ suc e.slot) → ((x ≡ suc f.slot → ⊥) → y ≡ x) → Leads h (length h) n x
    → Leads (after_swap h f e) (suc (length h)) n y
leads_swapped h slots f e n x y m led other leads = either (cases_eq x (suc f.slot))
    (λ same. subst (Leads (after_swap h f e) (suc (length h)) n) (sym (led same)) (leads_taken h slots f e n x m same leads))
    (λ off. subst (Leads (after_swap h f e) (suc (length h)) n) (sym (other off)) (leads_kept h slots f e n x m off leads))

-- no rank is above the old history
ranks_within : (h : List Change) (slots : List Slot) (f e g : Entry) → MaySwap h slots f e → IsLiveAt (after_swap h f e) (suc (length h)) g → rank_at (after_swap h f e) g.number < suc (length h)
ranks_within h slots f e g m live = either (swap_cases h slots f e g m live)
    (λ new.
    let lf : IsLiveAt h (length h) f = old_live h slots f e m in
    omega (arith, ap (λ (j : Entry). rank_at (after_swap h f e) j.number) new, rank_taken h slots f e m, rank_low h m.legal f.number, lf.begun))
    (λ old. omega (arith, rank_kept h f e g old.0, rank_low h m.legal g.number, old.0.begun))

leads_first : (h : List Change) (slots : List Slot) (f e : Entry) (x : ℕ) → MaySwap h slots f e → Leads (after_swap h f e) (suc (length h)) (suc (length h)) x
    → Leads (after_swap h f e) (suc (length h)) (suc (suc (length h))) x
leads_first h slots f e zero m (To_end none) = To_end (λ g live low. none g live (ranks_within h slots f e g m live))
leads_first h slots f e _ m (To_entry i live low most) = To_entry i live (omega (arith, low)) (λ g lg high. most g lg (ranks_within h slots f e g m lg))

-- no link of an entry leads to itself
not_itself : (h : List Change) (slots : List Slot) (head : ℕ) (next : List ℕ) (f : Entry) → SlotsShow h slots → ListShows h slots head next → slot_at slots f.slot ≡ Live f → get_or next f.slot 0 ≡ suc f.slot → ⊥
not_itself h slots head next f show list at is = omega (arith, (link_to h slots f (rank_at h f.number) (get_or next f.slot 0) show at is (list.links f.slot f at)).0)

-- only links of live entries were written, and not that of f
abbrev pub KeepsLinks : List Slot → Entry → List ℕ → List ℕ → Type 0
KeepsLinks slots f next new_next = (u : ℕ) → ((g : Entry) → slot_at slots u ≡ Live g → u ≡ f.slot) → get_or new_next u 0 ≡ get_or next u 0

pub list_swap : (h : List Change) (slots : List Slot) (head : ℕ) (next : List ℕ) (new_head : ℕ) (new_next : List ℕ) (f e : Entry) → MaySwap h slots f e → ListShows h slots head next
    → LeadsNow slots f head next new_head new_next (suc e.slot) → KeepsLinks slots f next new_next → get_or next e.slot 0 ≡ get_or next f.slot 0
    → ListShows (after_swap h f e) (slots_after slots f e) new_head new_next
list_swap h slots head next new_head new_next f e m list now kept link =
    let after : List Change = after_swap h f e in
    let size : length after ≡ suc (length h) = length-after_change h (swap h f e) in
    let up : (n x : ℕ) → Leads after (suc (length h)) n x → Leads after (length after) n x = λ n x l. subst (λ (k : ℕ). Leads after k n x) (sym size) l in
    let word : get_or new_next e.slot 0 ≡ get_or next f.slot 0 = kept e.slot (λ g at. absurd (let q : Live g ≡ Vacant = sym at ∙ m.vacant in cc)) ∙ link in
    let own : Leads after (length after) (rank_at after e.number) (get_or new_next e.slot 0) =
    subst (λ (n : ℕ). Leads after (length after) n (get_or new_next e.slot 0)) (sym (rank_taken h slots f e m))
    (subst (Leads after (length after) (rank_at h f.number)) (sym word)
    (up (rank_at h f.number) (get_or next f.slot 0)
    (leads_kept h slots f e (rank_at h f.number) (get_or next f.slot 0) m (not_itself h slots head next f m.show list m.old) (list.links f.slot f m.old)))) in
    record {
      first = subst (λ (n : ℕ). Leads after n (suc n) new_head) (sym size)
          (leads_first h slots f e new_head m (leads_swapped h slots f e (suc (length h)) head new_head m now.first now.first_stays list.first));
      links = λ u g is. either (live_after h slots f e g u m is)
          (λ new.
          subst (λ (i : Entry). Leads after (length after) (rank_at after i.number) (get_or new_next u 0)) (sym new.1)
          (subst (λ (v : ℕ). Leads after (length after) (rank_at after e.number) (get_or new_next v 0)) (sym new.0) own))
          (λ old.
          let lg : IsLiveAt h (length h) g = (m.show.live u g old.1).0 in
          subst (λ (n : ℕ). Leads after (length after) n (get_or new_next u 0)) (sym (rank_kept h f e g lg))
          (up (rank_at h g.number) (get_or new_next u 0)
          (leads_swapped h slots f e (rank_at h g.number) (get_or next u 0) (get_or new_next u 0) m (now.links u g old.1) (now.links_stay u g old.1) (list.links u g old.1))));
    }

pub links_swap : (h : List Change) (slots : List Slot) (head : ℕ) (next new_next : List ℕ) (begins : List (Option ℕ)) (f e : Entry) → MaySwap h slots f e → ListShows h slots head next
    → KeepsLinks slots f next new_next → LinksStay h slots next begins → LinksStay (after_swap h f e) (slots_after slots f e) new_next begins
links_swap h slots head next new_next begins f e m list kept links u p c b g is ends in_ low =
    let after : List Change = after_swap h f e in
    let lf : IsLiveAt h (length h) f = old_live h slots f e m in
    either (gone_after h slots f e g u m is)
    (λ same.
    let here : EndsAt after g.number (suc (length h)) = swap_ends h f e ∙ ap (λ (i : Entry). Some i.number) (sym same.1) in
    let end : suc (length h) ≡ p = one_end after (legal_swap h slots f e m) g.number (suc (length h)) p here ends in
    let word : get_or new_next u 0 ≡ get_or next f.slot 0 = kept u (λ i at. same.0) ∙ ap (λ (k : ℕ). get_or next k 0) same.0 in
    let rank : rank_at after g.number ≡ rank_at h f.number = ap (λ (i : Entry). rank_at after i.number) same.1 ∙ rank_kept h f e f lf in
    subst (λ (k : ℕ). Leads after k (rank_at after g.number) (get_or new_next u 0)) end
    (subst (λ (n : ℕ). Leads after (suc (length h)) n (get_or new_next u 0)) (sym rank)
    (subst (Leads after (suc (length h)) (rank_at h f.number)) (sym word)
    (leads_kept h slots f e (rank_at h f.number) (get_or next f.slot 0) m (not_itself h slots head next f m.show list m.old) (list.links f.slot f m.old)))))
    (λ off.
    let was = m.show.retired u g off.1 in
    let other : g.number ≢ f.number = λ same. omega (arith, lf.unended was.2.0 (subst (λ (n : ℕ). EndsAt h n was.2.0) same was.2.1), (ended_within h g.number was.2.0 was.2.1).1) in
    let older = end_then h f e g p other ends in
    let word : get_or new_next u 0 ≡ get_or next u 0 = kept u (λ i at. absurd (let q : Live i ≡ Retired g = sym at ∙ off.1 in cc)) in
    subst (Leads after p (rank_at after g.number)) (sym word) (frozen_old h (swap h f e) p (get_or next u 0) g m.legal older.1 (links u p c b g off.1 older.1 in_ low)))

-- Holders and marks

-- an entry that is retired keeps its slot
held_retired : (h : List Change) (slots : List Slot) (begins : List (Option ℕ)) (f : Entry) → slot_at slots f.slot ≡ Live f → HeldStay h slots begins → HeldStay h (set slots f.slot (Retired f)) begins
held_retired h slots begins f at held c b g is hold =
    let lt : f.slot < length slots = within_live slots f.slot f at in
    let was : IsIn g (slot_at slots g.slot) = held c b g is hold in
    grind (arith, slot_cases, live_one)

pub held_swap : (h : List Change) (slots : List Slot) (begins : List (Option ℕ)) (f e : Entry) → MaySwap h slots f e → HeldStay h slots begins → HeldStay (after_swap h f e) (slots_after slots f e) begins
held_swap h slots begins f e m held =
    held_retired (after_swap h f e) (set slots e.slot (Live e)) begins f (old_still h slots f e m) (held_more h (swap h f e) slots begins e refl m.within m.vacant held)

pub marks_swap : (h : List Change) (slots : List Slot) (marks : List (List Mark)) (section : List ℕ) (begins : List (Option ℕ)) (f e : Entry) (n : ℕ) → MaySwap h slots f e
    → f.slot < length marks
    → MarksHold h slots marks section begins → MarksHold (after_swap h f e) (slots_after slots f e) (set marks f.slot (replicate n no_mark)) section begins
marks_swap h slots marks section begins f e n m lm was =
    let lf : IsLiveAt h (length h) f = old_live h slots f e m in
    let fresh : (u j : ℕ) → u ≡ f.slot → mark_at (set marks f.slot (replicate n no_mark)) u j ≡ no_mark = λ u j same.
    ap (λ (k : ℕ). get_or (get_or (set marks f.slot (replicate n no_mark)) k []) j no_mark) same
    ∙ (ap (λ (r : List Mark). get_or r j no_mark) (get_or-set_same marks f.slot (replicate n no_mark) [] lm) ∙ get_or_all n no_mark j) in
    let kept : (u j : ℕ) → (u ≡ f.slot → ⊥) → mark_at (set marks f.slot (replicate n no_mark)) u j ≡ mark_at marks u j = λ u j off.
    ap (λ (r : List Mark). get_or r j no_mark) (get_or-set_other marks f.slot u (replicate n no_mark) [] off) in
    let older : (u p : ℕ) (g : Entry) → slot_at slots u ≡ Retired g → EndsAt (after_swap h f e) g.number p → EndsAt h g.number p = λ u p g gone ends.
    let end = m.show.retired u g gone in
    (end_then h f e g p (λ same. omega (arith, lf.unended end.2.0 (subst (λ (i : ℕ). EndsAt h i end.2.0) same end.2.1), (ended_within h g.number end.2.0 end.2.1).1)) ends).1 in
    record {
      passed = λ u p c b g is ends in_ marked. either (gone_after h slots f e g u m is)
          (λ same. absurd (let q : ◌≡◌ {A = Bool} false true = sym (ap (λ (k : Mark). k.passed) (fresh u c same.0)) ∙ marked in cc))
          (λ off. was.passed u p c b g off.1 (older u p g off.1 ends) in_ (sym (ap (λ (k : Mark). k.passed) (kept u c off.0)) ∙ marked));
      changed = λ u p c b w g is ends in_ snap differs. either (gone_after h slots f e g u m is)
          (λ same. absurd (none-some w (sym (ap (λ (k : Mark). k.snapshot) (fresh u c same.0)) ∙ snap)))
          (λ off. was.changed u p c b w g off.1 (older u p g off.1 ends) in_ (sym (ap (λ (k : Mark). k.snapshot) (kept u c off.0)) ∙ snap) differs);
      older = λ u c w g is snap. either (gone_after h slots f e g u m is)
          (λ same. absurd (none-some w (sym (ap (λ (k : Mark). k.snapshot) (fresh u c same.0)) ∙ snap)))
          (λ off. was.older u c w g off.1 (sym (ap (λ (k : Mark). k.snapshot) (kept u c off.0)) ∙ snap));
      left = λ u c b w g is in_ marked snap now. either (gone_after h slots f e g u m is)
          (λ same. absurd (none-some w (sym (ap (λ (k : Mark). k.snapshot) (fresh u c same.0)) ∙ snap)))
          (λ off. was.left u c b w g off.1 in_ (sym (ap (λ (k : Mark). k.passed) (kept u c off.0)) ∙ marked) (sym (ap (λ (k : Mark). k.snapshot) (kept u c off.0)) ∙ snap) now);
    }

-- The whole

-- what an event tells that is allowed
pub record IsSwap (s : State) (f e : Entry) : Type 0 where
  pub swap : MaySwap s.history s.slots f e
  pub rest : s.due ≡ Rest
  pub room : length s.history + live_count s.slots + 2 ≤ s.settings.change_limit
  pub link : get_or s.next e.slot 0 ≡ get_or s.next f.slot 0
  pub unused : are_unused s e.slot ≡ true
  pub rightly : keeps_rightly (kept_at s.keeps e.slot) e.rec.kind ≡ true
  pub row : row_at s.rows e.slot ≡ words_of e
  pub name : are_key_words e.rec.name.high e.rec.name.low ≡ true

pub may_republish_tells : (s : State) (t u : ℕ) (e f : Entry) → Holds s → entry_of t (row_at s.rows t) ≡ Some e → slot_at s.slots u ≡ Live f → may_republish s t u e f ≡ true
    → (e.slot ≡ t) × (f.slot ≡ u) × IsSwap s f e
may_republish_tells s t u e f on of at may =
    let row = entry_shows t (row_at s.rows t) e of in
    let own = on.slots.live u f at in
    let p5 : Bool = keeps_rightly (kept_at s.keeps t) e.rec.kind in
    let p4 : Bool = are_unused s t && p5 in
    let p3 : Bool = get_or s.next t 0 == get_or s.next u 0 && p4 in
    let p2 : Bool = has_room s && p3 in
    let p1 : Bool = same_key (key_of e) (key_of f) && p2 in
    let p0 : Bool = e.number == length s.history + 1 && p1 in
    let a0 = and_parts (may_write s t) p0 may in
    let a1 = and_parts (e.number == length s.history + 1) p1 a0.1 in
    let a2 = and_parts (same_key (key_of e) (key_of f)) p2 a1.1 in
    let a3 = and_parts (has_room s) p3 a2.1 in
    let a4 = and_parts (get_or s.next t 0 == get_or s.next u 0) p4 a3.1 in
    let a5 = and_parts (are_unused s t) p5 a4.1 in
    let told = may_write_tells s t on.shape a0.0 in
    let key : key_of e ≡ key_of f = key_from (key_of e) (key_of f) a2.0 in
    let number : e.number ≡ suc (length s.history) = omega (arith, eqb-true e.number (length s.history + 1) a1.0) in
    let room : length s.history + live_count s.slots + 2 ≤ s.settings.change_limit = leb-true (length s.history + live_count s.slots + 2) s.settings.change_limit a3.0 in
    let link : get_or s.next t 0 ≡ get_or s.next u 0 = eqb-true (get_or s.next t 0) (get_or s.next u 0) a4.0 in (
      row.0,
      own.1,
      record {
        swap = record {
          legal = on.legal;
          show = on.slots;
          old = ap (slot_at s.slots) own.1 ∙ at;
          within = omega (arith, told.1, row.0);
          vacant = ap (slot_at s.slots) row.0 ∙ told.2;
          number = number;
          key = sym key;
        };
        rest = told.0;
        room = room;
        link = ap (λ (k : ℕ). get_or s.next k 0) row.0 ∙ (link ∙ ap (λ (k : ℕ). get_or s.next k 0) (sym own.1));
        unused = ap (are_unused s) row.0 ∙ a5.0;
        rightly = ap (λ (k : ℕ). keeps_rightly (kept_at s.keeps k) e.rec.kind) row.0 ∙ a5.1;
        row = ap (row_at s.rows) row.0 ∙ row.1;
        name = row.2;
      },
    )

-- the one store leaves all but the head and one link
fit_swapped : (s : State) (f e : Entry) (head : ℕ) (next : List ℕ) → Holds s → IsSwap s f e → length next ≡ length s.next
    → ListShows (after_swap s.history f e) (slots_after s.slots f e) head next
    → LinksStay (after_swap s.history f e) (slots_after s.slots f e) next s.begins
    → CountsOf (with_replaced s e.slot f.slot e f) → ReferencesOf (with_replaced s e.slot f.slot e f) → DriversOf (with_replaced s e.slot f.slot e f)
    → Holds (with_replaced (record s { head = head; next = next }) e.slot f.slot e f)
fit_swapped s f e head next on is next_size list links counts references drivers =
    let m : MaySwap s.history s.slots f e = is.swap in
    let slots : List Slot = set s.slots e.slot (Live e) in
    let lt : f.slot < length slots = old_within s.history s.slots f e m in
    let lm : f.slot < length s.marks = omega (arith, lt, length-set s.slots e.slot (Live e), on.shape.slots, on.shape.marks) in
    let more : live_count slots + 0 ≡ live_count s.slots + 1 = live_count_put s.slots e.slot Vacant (Live e) m.within m.vacant in
    let less : live_count (set slots f.slot (Retired f)) + 1 ≡ live_count slots + 0 = live_count_put slots f.slot (Live f) (Retired f) lt (old_still s.history s.slots f e m) in
    let size : length (after_swap s.history f e) ≡ suc (length s.history) = length-after_change s.history (swap s.history f e) in
    let room : length (after_swap s.history f e) + live_count (set slots f.slot (Retired f)) ≤ s.settings.change_limit = omega (arith, size, more, less, is.room) in
    let slots_size : length (set slots f.slot (Retired f)) ≡ s.settings.slots = length-set slots f.slot (Retired f) ∙ (length-set s.slots e.slot (Live e) ∙ on.shape.slots) in
    let stand : SnapshotsStand s.settings.cpus slots s.marks Rest =
    λ u c g gone. (subst (SnapshotsStand s.settings.cpus s.slots s.marks) is.rest on.snapshots) u c g (retired_before s.slots e u g m.within gone) in
    let rows : RowsShow (set slots f.slot (Retired f)) s.rows =
    rows_detach slots s.rows f (old_still s.history s.slots f e m) (rows_attach s.slots s.rows e m.within is.row is.name on.rows) in
    assumption (
      next_size ∙ on.shape.links,
      length-set s.nets e.slot (replicate MOST_CPUS bias) ∙ on.shape.nets,
      rows_put s.nets e.slot (replicate MOST_CPUS bias) refl on.shape.net_rows,
      slots_size,
      length-set s.marks f.slot (replicate MOST_CPUS no_mark) ∙ on.shape.marks,
      rows_put s.marks f.slot (replicate MOST_CPUS no_mark) refl on.shape.mark_rows,
      legal_swap s.history s.slots f e m,
      slots_swap s.history s.slots f e m,
      held_swap s.history s.slots s.begins f e m on.held,
      marks_swap s.history s.slots s.marks s.section s.begins f e MOST_CPUS m lm on.grace,
      snapshots_detach s.settings.cpus slots s.marks f MOST_CPUS lt stand,
      sections_old s.settings s.history (swap s.history f e) s.section s.begins s.depths s.seen on.sections,
      searches_old s.settings s.history (swap s.history f e) s.section s.begins s.depths s.seen s.searches on.sections on.searches,
      found_old s.settings s.history (swap s.history f e) s.section s.begins s.depths s.seen s.found on.sections on.last_found,
      passive_detach s.settings.cpus s.settings.passive_limit slots s.marks s.passive s.hands f MOST_CPUS lt lm
          (passive_attach s.settings.cpus s.settings.passive_limit s.slots s.marks s.passive s.hands e m.within on.passive),
    )

swap_own : (s : State) (f e : Entry) (o : Option ℕ) → Holds s → IsSwap s f e → slot_before s.slots s.next f.slot ≡ o
    → CountsOf (with_replaced s e.slot f.slot e f) → ReferencesOf (with_replaced s e.slot f.slot e f) → DriversOf (with_replaced s e.slot f.slot e f)
    → Holds (with_replaced (with_link_to s e.slot o) e.slot f.slot e f)
swap_own s f e None on is before counts references drivers =
    let m : MaySwap s.history s.slots f e = is.swap in
    let size : length s.next ≡ length s.slots = on.shape.links ∙ sym on.shape.slots in
    let first : s.head ≡ suc f.slot = head_leads s.history s.slots s.head s.next f on.legal on.slots on.list size m.old before in
    let now : LeadsNow s.slots f s.head s.next (e.slot + 1) s.next (suc e.slot) =
    subst (λ (k : ℕ). LeadsNow s.slots f s.head s.next k s.next (suc e.slot)) (omega arith) (at_head s.history s.slots s.head s.next f (suc e.slot) on.legal on.slots on.list m.old first) in
    fit_swapped s f e (e.slot + 1) s.next on is refl
    (list_swap s.history s.slots s.head s.next (e.slot + 1) s.next f e m on.list now (λ u only. refl) is.link)
    (links_swap s.history s.slots s.head s.next s.next s.begins f e m on.list (λ u only. refl) on.frozen_links)
    counts references drivers
swap_own s f e (Some p) on is before counts references drivers =
    let m : MaySwap s.history s.slots f e = is.swap in
    let size : length s.next ≡ length s.slots = on.shape.links ∙ sym on.shape.slots in
    let g = before_leads s.slots s.next f.slot p size before in
    let next : List ℕ = set s.next p (e.slot + 1) in
    let now : LeadsNow s.slots f s.head s.next s.head next (suc e.slot) =
    subst (λ (k : ℕ). LeadsNow s.slots f s.head s.next s.head (set s.next p k) (suc e.slot)) (omega arith)
    (at_link s.history s.slots s.head s.next f g.0 p (suc e.slot) on.legal on.slots on.list size m.old g.1 g.2) in
    let kept : KeepsLinks s.slots f s.next next = λ u only. get_or-set_other s.next p u (e.slot + 1) 0 (λ same.
    let here : u ≡ f.slot = only g.0 (ap (slot_at s.slots) same ∙ g.1) in
    not_itself s.history s.slots s.head s.next f on.slots on.list m.old (ap (λ (k : ℕ). get_or s.next k 0) (sym here ∙ same) ∙ g.2)) in
    fit_swapped s f e s.head next on is (length-set s.next p (e.slot + 1))
    (list_swap s.history s.slots s.head s.next s.head next f e m on.list now kept is.link)
    (links_swap s.history s.slots s.head s.next next s.begins f e m on.list kept on.frozen_links)
    counts references drivers

pub republish_keeps : (s : State) (t u : ℕ) (e f : Entry) → Holds s → e.slot ≡ t → f.slot ≡ u → IsSwap s f e
    → CountsOf (with_replaced s e.slot f.slot e f) → ReferencesOf (with_replaced s e.slot f.slot e f) → DriversOf (with_replaced s e.slot f.slot e f) → Holds (after_republish s t u e f)
republish_keeps s t u e f on own old is counts references drivers =
    subst (λ (k : ℕ). Holds (after_republish s k u e f)) own
    (subst (λ (k : ℕ). Holds (after_republish s e.slot k e f)) old
    (swap_own s f e (slot_before s.slots s.next f.slot) on is refl counts references drivers))
