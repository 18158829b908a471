-- Publish and Unpublish on the words, and what the live numbers of the keeper's view tell of the links.
use Rattle.std.proofs.Common.{◌≡◌, ℕ, zero, suc, ◌<◌, ◌≤◌, ⊎_elim, List, length, get_or, Option, Some, None, refl, sym, ap, ◌∙◌, subst, arith, inl, inr, ◌+◌, [], ◌∷◌, replicate, take, set, sum_by, true, false, get_or-set_other, get_or-set_same}
use Rattle.std.proofs.lemmas.Bool.{cases_lt, and_from, lt-ltb, le-leb, eq-eqb}
use Rattle.std.specs.List.{zip, list_all}
use Rattle.std.proofs.lemmas.List.{get_or-replicate}
use Rattle.std.proofs.lemmas.List.Sums.{sum_by-cons}
use Rattle.cpu_words.specs.Types.{Entry, Change, Slot, Live, Attach, Settings, MOST_CPUS, Vacant, Retired, Rest, RecordWords, Publish, Done, Detach, Mark, Due, Snapshots, Unpublish}
use Rattle.registry_values.specs.Common.{slot_at, slot_before, key_of, is_taken, live_count, bias, no_mark}
use Rattle.registry_values.proofs.Fit.{ranges}
use Rattle.protocol.specs.Common.{SlotsShow, ListShows, Leads, To_entry, after_change, State, row_at, count_at, total_at, kept_at, step, entry_of, is_bias, keeps_rightly, IsIn, at_rest, live_at, guard, some_outcome, unpublish, after_unpublish, with_link_past, with_retired}
use Rattle.protocol.specs.Invariant.{To_end as No_entry}
use Rattle.protocol.specs.History.{rank_at}
use Rattle.protocol.specs.Common.{IsLegal}
use Rattle.protocol.proofs.History.{one_rank, rank_low, length-after_change}
use Rattle.protocol.proofs.keeps.Linking.{before_leads, head_leads, link_to}
use Rattle.protocol.proofs.Cells.{cell_in_new, cell_in_old, get_or_all, place_put}
use Rattle.protocol.proofs.Occupied.{slot_cases, in_other, in_published, not_vacant, in_unpublished, in_within, live_one}
use Rattle.cpu_words.specs.Common.{LeadsBelow, IsBefore, KeeperView, Keeper, head_word, next_of, index, keeper_view, KeeperShown, collected_net, collected_one, Agrees, Good, did, Makes, KeeperStores, MayPublish, HasPublished, PublishTold, GivesUp, MayUnpublish, HasUnpublished, UnpublishTold, keeper_after_unpublish, link_index, head_with, links_with, number_at}
use Rattle.cpu_words.specs.Publishing.{To_end, To_slot}
use Rattle.cpu_words.proofs.shown.Seeing.{prefix_on, honest_vacant, honest_changed}
use Rattle.cpu_words.proofs.shown.Placing.{agrees_set}
use Rattle.cpu_words.proofs.by_keeper.KeeperSteps.{with_keeper, LeavesCpus, Came, keeper_makes, seen_by_keeper, KeeperPuts}
use Rattle.cpu_words.proofs.by_keeper.Draining.{due_alike}

-- What the live numbers of the keeper's view tell of the links: where they lead, and which of them leads to a slot.

-- two links that lead to the greatest live rank below one rank are the same
pub one_link : (h : List Change) (slots : List Slot) (n x y : ℕ) → IsLegal h → SlotsShow h slots → LeadsBelow (rank_at h) slots n x → Leads h (length h) n y → x ≡ y
one_link h slots n zero zero legal show (To_end none) (No_entry empty) = refl
one_link h slots n zero _ legal show (To_end none) (To_entry e live lt most) = absurd (none e.slot e (show.placed e live) lt)
one_link h slots n _ zero legal show (To_slot t f at lt most) (No_entry empty) = absurd (empty f (show.live t f at).0 lt)
one_link h slots n _ _ legal show (To_slot t f at lt most) (To_entry e live low top) =
    let lf = show.live t f at in
    let a = most e.slot e (show.placed e live) low in
    let b = top f lf.0 lt in
    ap suc (sym lf.1 ∙ ap (λ (i : Entry). i.slot) (one_rank h legal (length h) f e lf.0 live (omega (arith, a, b))))

-- the one before a live entry is what the live ranks tell
own_before : (h : List Change) (slots : List Slot) (head : ℕ) (next : List ℕ) (e : Entry) (p o : Option ℕ) → IsLegal h → SlotsShow h slots → ListShows h slots head next → length next ≡ length slots
    → slot_at slots e.slot ≡ Live e → IsBefore (rank_at h) slots (rank_at h e.number) p → slot_before slots next e.slot ≡ o → o ≡ p
own_before h slots head next e None None legal show list size at before is = refl
own_before h slots head next e None (Some r) legal show list size at before is =
    let g = before_leads slots next e.slot r size is in
    absurd (omega (arith, (link_to h slots e (rank_at h g.0.number) (get_or next r 0) show at g.2 (list.links r g.0 g.1)).0, before r g.0 g.1))
own_before h slots head next e (Some q) None legal show list size at before is =
    let f = before.0 in
    let lf = show.live q f before.1 in
    let top = link_to h slots e (suc (length h)) head show at (head_leads h slots head next e legal show list size at is) list.first in
    absurd (omega (arith, top.1 f lf.0 (omega (arith, lf.0.begun, rank_low h legal f.number)), before.2))
own_before h slots head next e (Some q) (Some r) legal show list size at before is =
    let f = before.0 in
    let lf = show.live q f before.1 in
    let g = before_leads slots next e.slot r size is in
    let lg = show.live r g.0 g.1 in
    let top = link_to h slots e (rank_at h g.0.number) (get_or next r 0) show at g.2 (list.links r g.0 g.1) in
    let least : rank_at h f.number ≤ rank_at h g.0.number = before.3 r g.0 g.1 top.0 in
    let most : rank_at h g.0.number ≤ rank_at h f.number = ⊎_elim
    (λ (lt : rank_at h f.number < rank_at h g.0.number). absurd (omega (arith, top.1 f lf.0 lt, before.2)))
    (λ (ge : rank_at h g.0.number ≤ rank_at h f.number). ge)
    (cases_lt (rank_at h f.number) (rank_at h g.0.number)) in
    ap Some (sym lg.1 ∙ ap (λ (i : Entry). i.slot) (one_rank h legal (length h) g.0 f lg.0 lf.0 (omega (arith, least, most))) ∙ lf.1)

-- the same of the entry in the slot t
pub slot_before_is : (h : List Change) (slots : List Slot) (head : ℕ) (next : List ℕ) (t : ℕ) (e : Entry) (p : Option ℕ) → IsLegal h → SlotsShow h slots → ListShows h slots head next
    → length next ≡ length slots → slot_at slots t ≡ Live e → IsBefore (rank_at h) slots (rank_at h e.number) p → slot_before slots next t ≡ p
slot_before_is h slots head next t e p legal show list size at before =
    let own : e.slot ≡ t = (show.live t e at).1 in
    subst (λ (u : ℕ). slot_at slots u ≡ Live e → slot_before slots next u ≡ p) own (λ here. own_before h slots head next e p (slot_before slots next e.slot) legal show list size here before refl) at

-- Publish on the words.

-- what a publishing changes
abbrev pub publish_lists : State → ℕ → Entry → State
publish_lists g t e = record g { head = t + 1; history = after_change g.history (Attach e); slots = set g.slots t (Live e); nets = set g.nets t (replicate MOST_CPUS bias) }

-- what may be published, as the core that shows the keeper's view has it
pub record Publishes (g : State) (t : ℕ) (e : Entry) : Type 0 where
  pub rest : g.due ≡ Rest
  pub slot : t < g.settings.slots
  pub within : t < length g.slots
  pub vacant : slot_at g.slots t ≡ Vacant
  pub entry : entry_of t (row_at g.rows t) ≡ Some e
  pub number : e.number ≡ suc (length g.history)
  pub free : is_taken (key_of e) g.slots ≡ false
  pub room : length g.history + live_count g.slots + 2 ≤ g.settings.change_limit
  pub link : get_or g.next t 0 ≡ g.head
  pub counts : (c : ℕ) → c < g.settings.cpus → count_at g.counts c t ≡ bias
  pub total : total_at g.totals t ≡ bias
  pub keeps : keeps_rightly (kept_at g.keeps t) e.rec.kind ≡ true

pub publishes : (g : State) (k : KeeperView) (t : ℕ) (e : Entry) → Good g → KeeperShown g k → MayPublish k t e → Publishes g t e
publishes g k t e good had may =
    let seen = seen_by_keeper g k good had in
    let long : length k.history ≡ length g.history = ap (λ (h : List Change). length h) seen.history in
    let limit = ap (λ (a : Settings). a.change_limit) seen.settings in
    let slot : t < g.settings.slots = omega (arith, may.slot, ap (λ (a : Settings). a.slots) seen.settings) in
    let vacant : slot_at g.slots t ≡ Vacant = ap (λ (x : List Slot). slot_at x t) (sym seen.slots) ∙ may.vacant in
    let below : LeadsBelow (rank_at g.history) g.slots (suc (length g.history)) (get_or g.next t 0) =
    subst (λ (v : KeeperView). LeadsBelow (rank_at v.history) v.slots (suc (length v.history)) (get_or v.next t 0)) had.is may.link in
    record {
      rest = sym seen.due ∙ may.rest;
      slot = slot;
      within = omega (arith, slot, good.holds.shape.slots);
      vacant = vacant;
      entry = ap (λ (x : List RecordWords). entry_of t (row_at x t)) (sym seen.rows) ∙ may.entry;
      number = may.number ∙ ap suc long;
      free = ap (is_taken (key_of e)) (sym seen.slots) ∙ may.free;
      room = omega (arith, may.room, long, ap live_count seen.slots, limit);
      link = one_link g.history g.slots (suc (length g.history)) (get_or g.next t 0) g.head good.holds.legal good.holds.slots below good.holds.list.first;
      counts = λ c lt. had.counts c t vacant ∙ may.counts c (omega (arith, lt, ap (λ (a : Settings). a.cpus) seen.settings));
      total = ap (λ (x : List ℕ). total_at x t) (sym seen.totals) ∙ may.total;
      keeps = ap (λ (x : List (Option ℕ)). keeps_rightly (kept_at x t) e.rec.kind) (sym seen.keeps) ∙ may.keeps;
    }

-- a row whose first words are the bias
pub all_bias : (n : ℕ) (row : List ℕ) → ((c : ℕ) → c < n → get_or row c 0 ≡ bias) → list_all is_bias (take n row) ≡ true
all_bias zero row each = refl
all_bias (suc n) [] each = refl
all_bias (suc n) (x ∷ row) each = and_from (is_bias x) (list_all is_bias (take n row)) (eq-eqb x bias (each 0 (omega arith))) (all_bias n row (λ c lt. each (suc c) (omega arith)))

-- the core makes the event
made_publish : (g : State) (t : ℕ) (e : Entry) → Publishes g t e → step g (Publish t) ≡ Some (record { state = with_keeper g (publish_lists g t e); reply = Done })
made_publish g t e may =
    rw (
      may.entry,
      may.rest,
      lt-ltb t g.settings.slots may.slot,
      may.vacant,
      eq-eqb e.number (length g.history + 1) (omega (arith, may.number)),
      may.free,
      le-leb (length g.history + live_count g.slots + 2) g.settings.change_limit may.room,
      eq-eqb (get_or g.next t 0) g.head may.link,
      all_bias g.settings.cpus (get_or g.counts t []) may.counts,
      eq-eqb (total_at g.totals t) bias may.total,
      may.keeps,
    ) refl

-- who was there stays, and who comes is new
pub leaves_published : (g : State) (t : ℕ) (e : Entry) → Good g → Publishes g t e → LeavesCpus g (publish_lists g t e)
leaves_published g t e good may =
    let in_nets : t < length g.nets = omega (arith, may.slot, good.holds.shape.nets) in
    record {
      seated = omega arith;
      more = (Attach e ∷ [], refl);
      stay = λ u f here. ⊎_elim
          (λ (new : (u ≡ t) × (f ≡ e)). inr (subst (λ (p : ℕ × Entry). Came g (publish_lists g t e) p.0 p.1) (λ i. (sym new.0 i, sym new.1 i)) (
            omega (arith, may.number),
            λ c. good.holds.passive.vacant c t may.vacant,
            λ c lt. cell_in_new 0 g.nets t (replicate MOST_CPUS bias) c in_nets ∙ get_or-replicate MOST_CPUS c bias 0 (omega (arith, lt, (ranges g.settings good.holds.fit).cpus)),
          )))
          (λ (old : IsIn f (slot_at g.slots u)). inl (old, λ c. cell_in_old 0 g.nets t (replicate MOST_CPUS bias) u c (apart u f old)))
          (in_published g.slots t u e f may.within here);
      go = λ u f here. inl (in_other g.slots t (Live e) f u (apart u f here) here);
      collected = λ u c f retired is there. (get_or-set_other g.slots t u (Live e) Vacant (apart u f (inr retired)) ∙ retired, is);
    }
  where
    apart : (u : ℕ) (f : Entry) → IsIn f (slot_at g.slots u) → u ≡ t → ⊥
    apart u f here same = not_vacant f (slot_at g.slots u) (ap (slot_at g.slots) same ∙ may.vacant) here

-- what the keeper's view shows after it
pub shown_published : (g : State) (k : KeeperView) (t : ℕ) (e : Entry) → Good g → KeeperShown g k → Publishes g t e
    → KeeperShown (with_keeper g (publish_lists g t e)) (keeper_view (with_keeper g (publish_lists g t e)) k)
shown_published g k t e good had may =
    let longer : length (after_change g.history (Attach e)) ≡ suc (length g.history) = length-after_change g.history (Attach e) in
    record {
      is = refl;
      sized = had.sized;
      rows = had.rows;
      counts = λ c u. place_put Vacant g.slots t (Live e) (λ v x. x ≡ Vacant → count_at g.counts c v ≡ count_at k.counts c v) u (λ vacant. absurd (let q : Live e ≡ Vacant = vacant in cc)) (had.counts c u);
      live_total = λ u f. place_put Vacant g.slots t (Live e) (λ v x. x ≡ Live f → total_at g.totals v + number_at k.given_up f.number ≡ bias) u
          (λ live.
          let one : f ≡ e = let q : Live e ≡ Live f = live in cc in
          omega (arith, may.total, had.later f.number (omega (arith, ap (λ (i : Entry). i.number) one ∙ may.number))))
          (had.live_total u f);
      gives_up = λ u f retired. ⊎_elim
          (λ (same : (u ≡ t) × (slot_at (set g.slots t (Live e)) u ≡ Live e)). absurd (let q : Retired f ≡ Live e = sym retired ∙ same.1 in cc))
          (λ (off : (u ≡ t → ⊥) × (slot_at (set g.slots t (Live e)) u ≡ slot_at g.slots u)).
          let row = get_or-set_other g.nets t u (replicate MOST_CPUS bias) [] off.0 in
          let net = ap (λ (ns : List ℕ). sum_by collected_net (zip (get_or g.marks u []) ns)) row in
          omega (arith, had.gives_up u f (sym off.1 ∙ retired), net, ap (λ (ns : List ℕ). sum_by collected_one (zip (get_or g.marks u []) ns)) row))
          (slot_cases g.slots t (Live e) u may.within);
      later = λ n above. had.later n (omega (arith, above, longer));
      beyond = had.beyond;
      honest = honest_vacant g.slots g.lives t (Live e) may.vacant had.honest;
      noted_pass = prefix_on k.noted_pass g.history (Attach e ∷ []) had.noted_pass;
    }

pub publish_may : (z : Settings) (k : KeeperView) (t : ℕ) (e : Entry) → MayPublish k t e → KeeperPuts z k head_word (t + 1) (Publish t) (λ v _ l. PublishTold (Publish t) v l)
publish_may z k t e may s r i at fits =
    let g = r.g in
    let had : KeeperShown g k = (r.shows.fits i (Keeper k) at).1 in
    let does = publishes g k t e r.good had may in
    let l = publish_lists g t e in
    let done = keeper_makes z s r i k (index z head_word) (t + 1) l (Publish t) Done k at (made_publish g t e does) (leaves_published g t e r.good does) (λ n. refl) refl
    (shown_published g k t e r.good had does) (agrees_set z s.words g (with_keeper g l) head_word (t + 1) r.words refl tt refl
    (elim [ head_word ↦ λ _ off. absurd (off refl) | _ ↦ λ _ _. refl ])) in
    let change : HasPublished k t e (keeper_view (with_keeper g l) k) =
    ap (λ (v : KeeperView). record v { head = t + 1; history = after_change v.history (Attach e); slots = set v.slots t (Live e) }) (sym had.is) in
    (Keeper (keeper_view (with_keeper g l) k), done.0, (refl, (done.1, (e, may, change))))

-- Unpublish on the words.

-- what an unpublishing changes
abbrev pub unpublish_lists : State → ℕ → Entry → Option ℕ → ℕ → State
unpublish_lists g t e p v = record g {
  head = head_with g.head p v;
  next = links_with g.next p v;
  history = after_change g.history (Detach e.number);
  slots = set g.slots t (Retired e);
  marks = set g.marks t (replicate MOST_CPUS no_mark);
  due = Snapshots t 0;
}

-- what may be unpublished, as the core that shows the keeper's view has it
pub record Unpublishes (g : State) (t : ℕ) (e : Entry) (p : Option ℕ) (v : ℕ) : Type 0 where
  pub rest : g.due ≡ Rest
  pub live : slot_at g.slots t ≡ Live e
  pub within : t < length g.slots
  pub in_marks : t < length g.marks
  pub place : (q : ℕ) → p ≡ Some q → q < g.settings.slots
  pub before : slot_before g.slots g.next t ≡ p
  pub link : get_or g.next t 0 ≡ v
  pub hidden : live_at g.lives t ≡ 0

-- the slot before is live
pub before_within : (rank : ℕ → ℕ) (slots : List Slot) (n : ℕ) (p : Option ℕ) → IsBefore rank slots n p → (q : ℕ) → p ≡ Some q → q < length slots
before_within rank slots n None before q is = absurd (let a : ◌≡◌ {A = Option ℕ} None (Some q) = is in cc)
before_within rank slots n (Some r) before q is = let a : r ≡ q = cc in subst (λ (u : ℕ). u < length slots) a (in_within slots r before.0 (inl before.1))

pub unpublishes : (g : State) (k : KeeperView) (t : ℕ) (p : Option ℕ) (v : ℕ) → Good g → KeeperShown g k → (may : MayUnpublish k t p v) → Unpublishes g t may.e p v
unpublishes g k t p v good had may =
    let seen = seen_by_keeper g k good had in
    let shape = good.holds.shape in
    let e = may.e in
    let live : slot_at g.slots t ≡ Live e = ap (λ (x : List Slot). slot_at x t) (sym seen.slots) ∙ may.live in
    let rank : ℕ = rank_at g.history e.number in
    let before : IsBefore (rank_at g.history) g.slots rank p = subst (λ (w : KeeperView). IsBefore (rank_at w.history) w.slots (rank_at w.history e.number) p) had.is may.before in
    let below : LeadsBelow (rank_at g.history) g.slots rank v = subst (λ (w : KeeperView). LeadsBelow (rank_at w.history) w.slots (rank_at w.history e.number) v) had.is may.link in
    let within : t < length g.slots = in_within g.slots t e (inl live) in
    record {
      rest = sym seen.due ∙ may.rest;
      live = live;
      within = within;
      in_marks = omega (arith, within, shape.slots, shape.marks);
      place = λ q is. let lt = before_within (rank_at g.history) g.slots rank p before q is in omega (arith, lt, shape.slots);
      before = slot_before_is g.history g.slots g.head g.next t e p good.holds.legal good.holds.slots good.holds.list (shape.links ∙ sym shape.slots) live before;
      link = sym (one_link g.history g.slots rank v (get_or g.next t 0) good.holds.legal good.holds.slots below (good.holds.list.links t e live));
      hidden = ap (λ (x : List ℕ). live_at x t) (sym seen.lives) ∙ may.hidden;
    }

-- the store to the link, by where it is
retired_by : (g : State) (t : ℕ) (e : Entry) (p : Option ℕ) (v : ℕ) → get_or g.next t 0 ≡ v → with_retired (with_link_past g t p) t e ≡ with_keeper g (unpublish_lists g t e p v)
retired_by g t e None v link = ap (λ (x : ℕ). with_keeper g (unpublish_lists g t e None x)) link
retired_by g t e (Some q) v link = ap (λ (x : ℕ). with_keeper g (unpublish_lists g t e (Some q) x)) link

-- the core makes the event
made_unpublish : (g : State) (t : ℕ) (e : Entry) (p : Option ℕ) (v : ℕ) → Unpublishes g t e p v
    → step g (Unpublish t) ≡ Some (record { state = with_keeper g (unpublish_lists g t e p v); reply = Done })
made_unpublish g t e p v may =
    ap (unpublish g t) may.live
    ∙ (ap (λ (d : Due). guard (at_rest d) (some_outcome (after_unpublish g t e) Done)) may.rest
    ∙ (ap (λ (o : Option ℕ). some_outcome (with_retired (with_link_past g t o) t e) Done) may.before
    ∙ ap (λ (a : State). some_outcome a Done) (retired_by g t e p v may.link)))

-- all occupants stay
pub leaves_unlinked : (g : State) (t : ℕ) (e : Entry) (p : Option ℕ) (v : ℕ) → Unpublishes g t e p v → LeavesCpus g (unpublish_lists g t e p v)
leaves_unlinked g t e p v may = record {
  seated = omega arith;
  more = (Detach e.number ∷ [], refl);
  stay = λ u f here. inl (in_unpublished g.slots t u e f may.live here, λ c. refl);
  go = λ u f here. inl (⊎_elim
      (λ (same : (u ≡ t) × (slot_at (set g.slots t (Retired e)) u ≡ Retired e)). inr (same.1 ∙ ap Retired (sym (live_one f e (slot_at g.slots u) (ap (slot_at g.slots) same.0 ∙ may.live) here))))
      (λ (off : (u ≡ t → ⊥) × (slot_at (set g.slots t (Retired e)) u ≡ slot_at g.slots u)). subst (IsIn f) (sym off.1) here)
      (slot_cases g.slots t (Retired e) u may.within));
  collected = λ u c f retired is there.
      let off : u ≡ t → ⊥ = λ same. (let q : Retired f ≡ Live e = sym retired ∙ (ap (slot_at g.slots) same ∙ may.live) in cc) in
      (get_or-set_other g.slots t u (Retired e) Vacant off ∙ retired, ap (λ (m : Mark). m.collected) (cell_in_old no_mark g.marks t (replicate MOST_CPUS no_mark) u c off) ∙ is);
}

-- a row without marks has nothing collected
pub none_collected : (f : Mark × ℕ → ℕ) → ((n : ℕ) → f (no_mark, n) ≡ 0) → (m : ℕ) (row : List ℕ) → sum_by f (zip (replicate m no_mark) row) ≡ 0
none_collected f none zero row = refl
none_collected f none (suc m) [] = refl
none_collected f none (suc m) (n ∷ row) = omega (arith, sum_by-cons f (no_mark, n) (zip (replicate m no_mark) row), none n, none_collected f none m row)

-- the totals of the entries that are retired now
gives_up_unlinked : (g : State) (k : KeeperView) (t : ℕ) (e : Entry) (p : Option ℕ) (v : ℕ) → KeeperShown g k → Unpublishes g t e p v
    → (u : ℕ) (f : Entry) → slot_at (set g.slots t (Retired e)) u ≡ Retired f → GivesUp (with_keeper g (unpublish_lists g t e p v)) k.given_up u f.number
gives_up_unlinked g k t e p v had may u f retired = ⊎_elim
    (λ (same : (u ≡ t) × (slot_at (set g.slots t (Retired e)) u ≡ Retired e)).
    let one : f ≡ e = let q : Retired f ≡ Retired e = sym retired ∙ same.1 in cc in
    subst (λ (x : ℕ × ℕ). GivesUp (with_keeper g (unpublish_lists g t e p v)) k.given_up x.0 x.1) (λ i. (sym same.0 i, ap (λ (x : Entry). x.number) (sym one) i)) here)
    (λ (off : (u ≡ t → ⊥) × (slot_at (set g.slots t (Retired e)) u ≡ slot_at g.slots u)).
    let row = get_or-set_other g.marks t u (replicate MOST_CPUS no_mark) [] off.0 in
    let net = ap (λ (ms : List Mark). sum_by collected_net (zip ms (get_or g.nets u []))) row in
    let rest = due_alike g.due Rest may.rest u in
    omega (arith, had.gives_up u f (sym off.1 ∙ retired), net, ap (λ (ms : List Mark). sum_by collected_one (zip ms (get_or g.nets u []))) row, rest.0, rest.1, rest.2))
    (slot_cases g.slots t (Retired e) u may.within)
  where
    here : GivesUp (with_keeper g (unpublish_lists g t e p v)) k.given_up t e.number
    here =
        let row = get_or-set_same g.marks t (replicate MOST_CPUS no_mark) [] may.in_marks in
        let net = ap (λ (ms : List Mark). sum_by collected_net (zip ms (get_or g.nets t []))) row ∙ none_collected collected_net (λ n. refl) MOST_CPUS (get_or g.nets t []) in
        let one = ap (λ (ms : List Mark). sum_by collected_one (zip ms (get_or g.nets t []))) row ∙ none_collected collected_one (λ n. refl) MOST_CPUS (get_or g.nets t []) in
        omega (arith, had.live_total t e may.live, net, one)

-- what the keeper's view shows after it
pub shown_unlinked : (g : State) (k : KeeperView) (t : ℕ) (e : Entry) (p : Option ℕ) (v : ℕ) → Good g → KeeperShown g k → Unpublishes g t e p v
    → KeeperShown (with_keeper g (unpublish_lists g t e p v)) (keeper_view (with_keeper g (unpublish_lists g t e p v)) k)
shown_unlinked g k t e p v good had may =
    let longer : length (after_change g.history (Detach e.number)) ≡ suc (length g.history) = length-after_change g.history (Detach e.number) in
    record {
      is = refl;
      sized = had.sized;
      rows = had.rows;
      counts = λ c u.
          place_put Vacant g.slots t (Retired e) (λ v x. x ≡ Vacant → count_at g.counts c v ≡ count_at k.counts c v) u (λ vacant. absurd (let q : Retired e ≡ Vacant = vacant in cc)) (had.counts c u);
      live_total = λ u f. place_put Vacant g.slots t (Retired e) (λ v x. x ≡ Live f → total_at g.totals v + number_at k.given_up f.number ≡ bias) u
          (λ live. absurd (let q : Retired e ≡ Live f = live in cc)) (had.live_total u f);
      gives_up = gives_up_unlinked g k t e p v had may;
      later = λ n above. had.later n (omega (arith, above, longer));
      beyond = λ c u past. place_put [] g.marks t (replicate MOST_CPUS no_mark) (λ v row. (get_or row c no_mark).collected ≡ false) u
          (ap (λ (m : Mark). m.collected) (get_or_all MOST_CPUS no_mark c)) (had.beyond c u past);
      honest = honest_changed g.slots g.lives t (Retired e) may.hidden had.honest;
      noted_pass = prefix_on k.noted_pass g.history (Detach e.number ∷ []) had.noted_pass;
    }

link_words : (z : Settings) (words : List ℕ) (g : State) (t : ℕ) (e : Entry) (p : Option ℕ) (v : ℕ) → Good g → Agrees z words g → Unpublishes g t e p v
    → Agrees z (set words (link_index p) v) (with_keeper g (unpublish_lists g t e p v))
link_words z words g t e None v good agrees may = agrees_set z words g (with_keeper g (unpublish_lists g t e None v)) head_word v agrees refl tt refl (elim [ head_word ↦ λ _ off. absurd (off refl) | _ ↦ λ _ _. refl ])
link_words z words g t e (Some p) v good agrees may =
    let lt : p < g.settings.slots = may.place p refl in
    agrees_set z words g (with_keeper g (unpublish_lists g t e (Some p) v)) (next_of p) v agrees refl lt
    (get_or-set_same g.next p v 0 (omega (arith, lt, good.holds.shape.links))) (elim [ next_of u ↦ λ _ off. get_or-set_other g.next p u v 0 (λ same. off (ap next_of same)) | _ ↦ λ _ _. refl ])

-- one place is the link of one slot before
pub one_place : (p q : Option ℕ) → link_index q ≡ link_index p → p ≡ q
one_place None None same = refl
one_place None (Some q) same = absurd (omega arith)
one_place (Some p) None same = absurd (omega arith)
one_place (Some p) (Some q) same = let i : p ≡ q = omega arith in ap Some i

unpublish_at : (z : Settings) (k : KeeperView) (t : ℕ) (p : Option ℕ) (v : ℕ) → MayUnpublish k t p v
    → KeeperStores z k (link_index p) v (λ _. did (Unpublish t) Done) (λ y n l. Makes (Unpublish t) Done (Keeper y) (Keeper l) × UnpublishTold (Unpublish t) (link_index p) v y l)
unpublish_at z k t p v may s r i at fits =
    let g = r.g in
    let e = may.e in
    let had : KeeperShown g k = (r.shows.fits i (Keeper k) at).1 in
    let does = unpublishes g k t p v r.good had may in
    let l = unpublish_lists g t e p v in
    let done = keeper_makes z s r i k (link_index p) v l (Unpublish t) Done k at (made_unpublish g t e p v does) (leaves_unlinked g t e p v does) (λ n. refl) refl
    (shown_unlinked g k t e p v r.good had does) (link_words z s.words g t e p v r.good r.words does) in
    let change : keeper_view (with_keeper g l) k ≡ keeper_after_unpublish k t e p v = ap (λ (y : KeeperView). keeper_after_unpublish y t e p v) (sym had.is) in (
      Keeper (keeper_view (with_keeper g l) k),
      done.0,
      (
        refl,
        (
          done.1,
          λ o same. subst (λ (x : Option ℕ). HasUnpublished k t x v (keeper_view (with_keeper g l) k)) (one_place p o same) (e, may.live, change),
        ),
      ),
    )

pub unpublish_may : (z : Settings) (k : KeeperView) (t : ℕ) (p : Option ℕ) (v w : ℕ) → w ≡ link_index p → MayUnpublish k t p v
    → KeeperStores z k w v (λ _. did (Unpublish t) Done) (λ y n l. Makes (Unpublish t) Done (Keeper y) (Keeper l) × UnpublishTold (Unpublish t) w v y l)
unpublish_may z k t p v w is may = rw is (unpublish_at z k t p v may)
