-- Republish on the words: one store to the link that leads to the old entry's slot.
use Rattle.std.proofs.Common.{◌≡◌, ◌≢◌, Bool, ℕ, suc, ◌<◌, ◌≤◌, ⊎_elim, List, [], ◌∷◌, length, get_or, Option, Some, None, refl, sym, ap, ◌∙◌, subst, arith, inl, inr, ◌+◌, replicate, set, sum_by, true, false, get_or-set_other, get_or-set_same}
use Rattle.std.proofs.lemmas.Bool.{lt-ltb, le-leb, eq-eqb}
use Rattle.std.specs.List.{zip}
use Rattle.std.proofs.lemmas.List.{get_or-replicate}
use Rattle.cpu_words.specs.Types.{Entry, Key, Change, Slot, Live, Replace, Settings, MOST_CPUS, Vacant, Retired, Rest, RecordWords, Republish, Done, Mark, Snapshots}
use Rattle.registry_values.specs.Common.{slot_at, slot_before, key_of, same_key, live_count, bias, no_mark}
use Rattle.registry_values.proofs.Fit.{ranges}
use Rattle.registry_values.proofs.Slots.{key_same}
use Rattle.protocol.specs.Common.{after_change, State, row_at, count_at, total_at, kept_at, step, entry_of, keeps_rightly, IsIn, live_at, guard, some_outcome, with_some, may_republish, republish, after_republish, with_link_to, with_replaced}
use Rattle.protocol.specs.History.{rank_at}
use Rattle.protocol.proofs.History.{length-after_change}
use Rattle.protocol.proofs.keeps.Linking.{within_live}
use Rattle.protocol.proofs.Cells.{cell_in_new, cell_in_old, get_or_all, place_put}
use Rattle.protocol.proofs.Occupied.{slot_cases, in_other, in_published, not_vacant, in_unpublished, live_one}
use Rattle.cpu_words.specs.Common.{LeadsBelow, IsBefore, KeeperView, Keeper, head_word, next_of, keeper_view, KeeperShown, collected_net, collected_one, Agrees, Good, did, Makes, KeeperStores, GivesUp, MayRepublish, HasRepublished, RepublishTold, keeper_after_republish, link_index, head_with, links_with, number_at}
use Rattle.cpu_words.proofs.shown.Seeing.{prefix_on, honest_vacant, honest_changed}
use Rattle.cpu_words.proofs.shown.Placing.{agrees_set}
use Rattle.cpu_words.proofs.by_keeper.KeeperSteps.{with_keeper, LeavesCpus, Came, keeper_makes, seen_by_keeper}
use Rattle.cpu_words.proofs.by_keeper.Draining.{due_alike}
use Rattle.cpu_words.proofs.by_keeper.Publishing.{all_bias, before_within, none_collected, one_link, one_place, slot_before_is}

-- what a replacing changes
abbrev pub republish_lists : State → ℕ → ℕ → Entry → Entry → Option ℕ → State
republish_lists g t u e f p = record g {
  head = head_with g.head p (t + 1);
  next = links_with g.next p (t + 1);
  history = after_change g.history (Replace f.number (rank_at g.history f.number) e);
  slots = set (set g.slots t (Live e)) u (Retired f);
  nets = set g.nets t (replicate MOST_CPUS bias);
  marks = set g.marks u (replicate MOST_CPUS no_mark);
  due = Snapshots u 0;
}

-- what may be replaced, as the core that shows the keeper's view has it
pub record Republishes (g : State) (t u : ℕ) (e f : Entry) (p : Option ℕ) : Type 0 where
  pub rest : g.due ≡ Rest
  pub slot : t < g.settings.slots
  pub within : t < length g.slots
  pub vacant : slot_at g.slots t ≡ Vacant
  pub entry : entry_of t (row_at g.rows t) ≡ Some e
  pub number : e.number ≡ suc (length g.history)
  pub live : slot_at g.slots u ≡ Live f
  pub alike : key_of e ≡ key_of f
  pub room : length g.history + live_count g.slots + 2 ≤ g.settings.change_limit
  pub place : (q : ℕ) → p ≡ Some q → q < g.settings.slots
  pub before : slot_before g.slots g.next u ≡ p
  pub link : get_or g.next t 0 ≡ get_or g.next u 0
  pub in_marks : u < length g.marks
  pub hidden : live_at g.lives u ≡ 0
  pub counts : (c : ℕ) → c < g.settings.cpus → count_at g.counts c t ≡ bias
  pub total : total_at g.totals t ≡ bias
  pub keeps : keeps_rightly (kept_at g.keeps t) e.rec.kind ≡ true

pub republishes : (g : State) (k : KeeperView) (t u : ℕ) (p : Option ℕ) → Good g → KeeperShown g k → (may : MayRepublish k t u p) → Republishes g t u may.e may.f p
republishes g k t u p good had may =
    let seen = seen_by_keeper g k good had in
    let shape = good.holds.shape in
    let long : length k.history ≡ length g.history = ap (λ (h : List Change). length h) seen.history in
    let limit = ap (λ (a : Settings). a.change_limit) seen.settings in
    let f = may.f in
    let live : slot_at g.slots u ≡ Live f = ap (λ (x : List Slot). slot_at x u) (sym seen.slots) ∙ may.live in
    let slot : t < g.settings.slots = omega (arith, may.slot, ap (λ (a : Settings). a.slots) seen.settings) in
    let vacant : slot_at g.slots t ≡ Vacant = ap (λ (x : List Slot). slot_at x t) (sym seen.slots) ∙ may.vacant in
    let rank : ℕ = rank_at g.history f.number in
    let before : IsBefore (rank_at g.history) g.slots rank p = subst (λ (w : KeeperView). IsBefore (rank_at w.history) w.slots (rank_at w.history f.number) p) had.is may.before in
    let below : LeadsBelow (rank_at g.history) g.slots rank (get_or g.next t 0) =
    subst (λ (w : KeeperView). LeadsBelow (rank_at w.history) w.slots (rank_at w.history f.number) (get_or w.next t 0)) had.is may.link in
    let within : u < length g.slots = within_live g.slots u f live in
    record {
      rest = sym seen.due ∙ may.rest;
      slot = slot;
      within = omega (arith, slot, shape.slots);
      vacant = vacant;
      entry = ap (λ (x : List RecordWords). entry_of t (row_at x t)) (sym seen.rows) ∙ may.entry;
      number = may.number ∙ ap suc long;
      live = live;
      alike = may.alike;
      room = omega (arith, may.room, long, ap live_count seen.slots, limit);
      place = λ q is. let lt = before_within (rank_at g.history) g.slots rank p before q is in omega (arith, lt, shape.slots);
      before = slot_before_is g.history g.slots g.head g.next u f p good.holds.legal good.holds.slots good.holds.list (shape.links ∙ sym shape.slots) live before;
      link = one_link g.history g.slots rank (get_or g.next t 0) (get_or g.next u 0) good.holds.legal good.holds.slots below (good.holds.list.links u f live);
      in_marks = omega (arith, within, shape.slots, shape.marks);
      hidden = ap (λ (x : List ℕ). live_at x u) (sym seen.lives) ∙ may.hidden;
      counts = λ c lt. had.counts c t vacant ∙ may.counts c (omega (arith, lt, ap (λ (a : Settings). a.cpus) seen.settings));
      total = ap (λ (x : List ℕ). total_at x t) (sym seen.totals) ∙ may.total;
      keeps = ap (λ (x : List (Option ℕ)). keeps_rightly (kept_at x t) may.e.rec.kind) (sym seen.keeps) ∙ may.keeps;
    }

-- the store to the link, by where it is
swapped_by : (g : State) (t u : ℕ) (e f : Entry) (p : Option ℕ) → with_replaced (with_link_to g t p) t u e f ≡ with_keeper g (republish_lists g t u e f p)
swapped_by g t u e f None = refl
swapped_by g t u e f (Some q) = refl

-- the core makes the event
made_republish : (g : State) (t u : ℕ) (e f : Entry) (p : Option ℕ) → Republishes g t u e f p
    → step g (Republish t u) ≡ Some (record { state = with_keeper g (republish_lists g t u e f p); reply = Done })
made_republish g t u e f p may =
    let same : same_key (key_of e) (key_of f) ≡ true = ap (λ (k : Key). same_key k (key_of f)) may.alike ∙ key_same (key_of f) in
    let test : may_republish g t u e f ≡ true = rw (
      may.rest,
      lt-ltb t g.settings.slots may.slot,
      may.vacant,
      eq-eqb e.number (length g.history + 1) (omega (arith, may.number)),
      same,
      le-leb (length g.history + live_count g.slots + 2) g.settings.change_limit may.room,
      eq-eqb (get_or g.next t 0) (get_or g.next u 0) may.link,
      all_bias g.settings.cpus (get_or g.counts t []) may.counts,
      eq-eqb (total_at g.totals t) bias may.total,
      may.keeps,
    ) refl in
    ap (λ (o : Option Entry). with_some o (λ (i : Entry). republish g t u i (slot_at g.slots u))) may.entry
    ∙ (ap (republish g t u e) may.live
    ∙ (ap (λ (b : Bool). guard b (some_outcome (after_republish g t u e f) Done)) test
    ∙ (ap (λ (o : Option ℕ). some_outcome (with_replaced (with_link_to g t o) t u e f) Done) may.before
    ∙ ap (λ (a : State). some_outcome a Done) (swapped_by g t u e f p))))

-- the two slots

is_apart : (g : State) (t u : ℕ) (e f : Entry) (p : Option ℕ) → Republishes g t u e f p → t ≢ u
is_apart g t u e f p may same = let q : Vacant ≡ Live f = sym may.vacant ∙ (ap (slot_at g.slots) same ∙ may.live) in cc

-- after the first write the old one is as it was
still_live : (g : State) (t u : ℕ) (e f : Entry) (p : Option ℕ) → Republishes g t u e f p → slot_at (set g.slots t (Live e)) u ≡ Live f
still_live g t u e f p may = get_or-set_other g.slots t u (Live e) Vacant (λ same. is_apart g t u e f p may (sym same)) ∙ may.live

-- what is retired then, other than f, was so before
was_retired : (g : State) (t u : ℕ) (e f : Entry) (v : ℕ) (i : Entry) → t < length g.slots → slot_at (set g.slots t (Live e)) v ≡ Retired i → (v ≡ t → ⊥) × (slot_at g.slots v ≡ Retired i)
was_retired g t u e f v i lt is = ⊎_elim
    (λ (here : (v ≡ t) × (slot_at (set g.slots t (Live e)) v ≡ Live e)). absurd (let q : Retired i ≡ Live e = sym is ∙ here.1 in cc))
    (λ (off : (v ≡ t → ⊥) × (slot_at (set g.slots t (Live e)) v ≡ slot_at g.slots v)). (off.0, sym off.1 ∙ is))
    (slot_cases g.slots t (Live e) v lt)

-- who was there stays, and who comes is new
pub leaves_replaced : (g : State) (t u : ℕ) (e f : Entry) (p : Option ℕ) → Good g → Republishes g t u e f p → LeavesCpus g (republish_lists g t u e f p)
leaves_replaced g t u e f p good may =
    let first : List Slot = set g.slots t (Live e) in
    let old : slot_at first u ≡ Live f = still_live g t u e f p may in
    let lu : u < length first = within_live first u f old in
    let in_nets : t < length g.nets = omega (arith, may.slot, good.holds.shape.nets) in
    record {
      seated = omega arith;
      more = (Replace f.number (rank_at g.history f.number) e ∷ [], refl);
      stay = λ v i here. ⊎_elim
          (λ (new : (v ≡ t) × (i ≡ e)). inr (subst (λ (x : ℕ × Entry). Came g (republish_lists g t u e f p) x.0 x.1) (λ j. (sym new.0 j, sym new.1 j)) (
            omega (arith, may.number),
            λ c. good.holds.passive.vacant c t may.vacant,
            λ c lt. cell_in_new 0 g.nets t (replicate MOST_CPUS bias) c in_nets ∙ get_or-replicate MOST_CPUS c bias 0 (omega (arith, lt, (ranges g.settings good.holds.fit).cpus)),
          )))
          (λ (was : IsIn i (slot_at g.slots v)). inl (was, λ c. cell_in_old 0 g.nets t (replicate MOST_CPUS bias) v c (apart v i was)))
          (in_published g.slots t v e i may.within (in_unpublished first u v f i old here));
      go = λ v i here.
          let there : IsIn i (slot_at first v) = in_other g.slots t (Live e) i v (apart v i here) here in
          inl (⊎_elim
          (λ (same : (v ≡ u) × (slot_at (set first u (Retired f)) v ≡ Retired f)). inr (same.1 ∙ ap Retired (sym (live_one i f (slot_at first v) (ap (slot_at first) same.0 ∙ old) there))))
          (λ (off : (v ≡ u → ⊥) × (slot_at (set first u (Retired f)) v ≡ slot_at first v)). subst (IsIn i) (sym off.1) there)
          (slot_cases first u (Retired f) v lu));
      collected = λ v c i retired is there.
          let off : v ≡ u → ⊥ = λ same. (let q : Retired i ≡ Live f = sym retired ∙ (ap (slot_at g.slots) same ∙ may.live) in cc) in
          let other : v ≡ t → ⊥ = apart v i (inr retired) in (
            get_or-set_other first u v (Retired f) Vacant off ∙ (get_or-set_other g.slots t v (Live e) Vacant other ∙ retired),
            ap (λ (m : Mark). m.collected) (cell_in_old no_mark g.marks u (replicate MOST_CPUS no_mark) v c off) ∙ is,
          );
    }
  where
    apart : (v : ℕ) (i : Entry) → IsIn i (slot_at g.slots v) → v ≡ t → ⊥
    apart v i here same = not_vacant i (slot_at g.slots v) (ap (slot_at g.slots) same ∙ may.vacant) here

-- the totals of the entries that are retired now
gives_up_replaced : (g : State) (k : KeeperView) (t u : ℕ) (e f : Entry) (p : Option ℕ) → KeeperShown g k → Republishes g t u e f p
    → (v : ℕ) (i : Entry) → slot_at (set (set g.slots t (Live e)) u (Retired f)) v ≡ Retired i → GivesUp (with_keeper g (republish_lists g t u e f p)) k.given_up v i.number
gives_up_replaced g k t u e f p had may v i retired = ⊎_elim
    (λ (same : (v ≡ u) × (slot_at (set first u (Retired f)) v ≡ Retired f)).
    let one : i ≡ f = let q : Retired i ≡ Retired f = sym retired ∙ same.1 in cc in
    subst (λ (x : ℕ × ℕ). GivesUp (with_keeper g (republish_lists g t u e f p)) k.given_up x.0 x.1) (λ j. (sym same.0 j, ap (λ (x : Entry). x.number) (sym one) j)) here)
    (λ (off : (v ≡ u → ⊥) × (slot_at (set first u (Retired f)) v ≡ slot_at first v)).
    let was = was_retired g t u e f v i may.within (sym off.1 ∙ retired) in
    let row = get_or-set_other g.marks u v (replicate MOST_CPUS no_mark) [] off.0 in
    let net_row = get_or-set_other g.nets t v (replicate MOST_CPUS bias) [] was.0 in
    let ns : List ℕ = get_or (set g.nets t (replicate MOST_CPUS bias)) v [] in
    let net = ap (λ (ms : List Mark). sum_by collected_net (zip ms ns)) row ∙ ap (λ (x : List ℕ). sum_by collected_net (zip (get_or g.marks v []) x)) net_row in
    let one = ap (λ (ms : List Mark). sum_by collected_one (zip ms ns)) row ∙ ap (λ (x : List ℕ). sum_by collected_one (zip (get_or g.marks v []) x)) net_row in
    let rest = due_alike g.due Rest may.rest v in
    omega (arith, had.gives_up v i was.1, net, one, rest.0, rest.1, rest.2))
    (slot_cases first u (Retired f) v (within_live first u f (still_live g t u e f p may)))
  where
    first : List Slot
    first = set g.slots t (Live e)

    here : GivesUp (with_keeper g (republish_lists g t u e f p)) k.given_up u f.number
    here =
        let row = get_or-set_same g.marks u (replicate MOST_CPUS no_mark) [] may.in_marks in
        let nets : List (List ℕ) = set g.nets t (replicate MOST_CPUS bias) in
        let net = ap (λ (ms : List Mark). sum_by collected_net (zip ms (get_or nets u []))) row ∙ none_collected collected_net (λ n. refl) MOST_CPUS (get_or nets u []) in
        let one = ap (λ (ms : List Mark). sum_by collected_one (zip ms (get_or nets u []))) row ∙ none_collected collected_one (λ n. refl) MOST_CPUS (get_or nets u []) in
        omega (arith, had.live_total u f may.live, net, one)

-- what the keeper's view shows after it
pub shown_replaced : (g : State) (k : KeeperView) (t u : ℕ) (e f : Entry) (p : Option ℕ) → Good g → KeeperShown g k → Republishes g t u e f p
    → KeeperShown (with_keeper g (republish_lists g t u e f p)) (keeper_view (with_keeper g (republish_lists g t u e f p)) k)
shown_replaced g k t u e f p good had may =
    let change : Change = Replace f.number (rank_at g.history f.number) e in
    let longer : length (after_change g.history change) ≡ suc (length g.history) = length-after_change g.history change in
    let first : List Slot = set g.slots t (Live e) in
    record {
      is = refl;
      sized = had.sized;
      rows = had.rows;
      counts = λ c v. place_put Vacant first u (Retired f) (λ w x. x ≡ Vacant → count_at g.counts c w ≡ count_at k.counts c w) v (λ vacant. absurd (let q : Retired f ≡ Vacant = vacant in cc))
          (place_put Vacant g.slots t (Live e) (λ w x. x ≡ Vacant → count_at g.counts c w ≡ count_at k.counts c w) v (λ vacant. absurd (let q : Live e ≡ Vacant = vacant in cc)) (had.counts c v));
      live_total = λ v i. place_put Vacant first u (Retired f) (λ w x. x ≡ Live i → total_at g.totals w + number_at k.given_up i.number ≡ bias) v
          (λ live. absurd (let q : Retired f ≡ Live i = live in cc))
          (place_put Vacant g.slots t (Live e) (λ w x. x ≡ Live i → total_at g.totals w + number_at k.given_up i.number ≡ bias) v
          (λ live.
          let one : i ≡ e = let q : Live e ≡ Live i = live in cc in
          omega (arith, may.total, had.later i.number (omega (arith, ap (λ (j : Entry). j.number) one ∙ may.number))))
          (had.live_total v i));
      gives_up = gives_up_replaced g k t u e f p had may;
      later = λ n above. had.later n (omega (arith, above, longer));
      beyond = λ c v past. place_put [] g.marks u (replicate MOST_CPUS no_mark) (λ w row. (get_or row c no_mark).collected ≡ false) v
          (ap (λ (m : Mark). m.collected) (get_or_all MOST_CPUS no_mark c)) (had.beyond c v past);
      honest = honest_changed first g.lives u (Retired f) may.hidden (honest_vacant g.slots g.lives t (Live e) may.vacant had.honest);
      noted_pass = prefix_on k.noted_pass g.history (change ∷ []) had.noted_pass;
    }

link_words : (z : Settings) (words : List ℕ) (g : State) (t u : ℕ) (e f : Entry) (p : Option ℕ) → Good g → Agrees z words g → Republishes g t u e f p
    → Agrees z (set words (link_index p) (t + 1)) (with_keeper g (republish_lists g t u e f p))
link_words z words g t u e f None good agrees may =
    agrees_set z words g (with_keeper g (republish_lists g t u e f None)) head_word (t + 1) agrees refl tt refl (elim [ head_word ↦ λ _ off. absurd (off refl) | _ ↦ λ _ _. refl ])
link_words z words g t u e f (Some p) good agrees may =
    let lt : p < g.settings.slots = may.place p refl in
    agrees_set z words g (with_keeper g (republish_lists g t u e f (Some p))) (next_of p) (t + 1) agrees refl lt
    (get_or-set_same g.next p (t + 1) 0 (omega (arith, lt, good.holds.shape.links)))
    (elim [ next_of v ↦ λ _ off. get_or-set_other g.next p v (t + 1) 0 (λ same. off (ap next_of same)) | _ ↦ λ _ _. refl ])

republish_at : (z : Settings) (k : KeeperView) (t u : ℕ) (p : Option ℕ) → MayRepublish k t u p
    → KeeperStores z k (link_index p) (t + 1) (λ _. did (Republish t u) Done) (λ y n l. Makes (Republish t u) Done (Keeper y) (Keeper l) × RepublishTold (Republish t u) (link_index p) y l)
republish_at z k t u p may s r i at fits =
    let g = r.g in
    let e = may.e in
    let f = may.f in
    let had : KeeperShown g k = (r.shows.fits i (Keeper k) at).1 in
    let does = republishes g k t u p r.good had may in
    let l = republish_lists g t u e f p in
    let done = keeper_makes z s r i k (link_index p) (t + 1) l (Republish t u) Done k at (made_republish g t u e f p does) (leaves_replaced g t u e f p r.good does) (λ n. refl) refl
    (shown_replaced g k t u e f p r.good had does) (link_words z s.words g t u e f p r.good r.words does) in
    let change : keeper_view (with_keeper g l) k ≡ keeper_after_republish k t u e f p = ap (λ (y : KeeperView). keeper_after_republish y t u e f p) (sym had.is) in (
      Keeper (keeper_view (with_keeper g l) k),
      done.0,
      (
        refl,
        (
          done.1,
          λ o same. subst (λ (x : Option ℕ). HasRepublished k t u x (keeper_view (with_keeper g l) k)) (one_place p o same) (e, f, may.entry, may.live, change),
        ),
      ),
    )

pub republish_may : (z : Settings) (k : KeeperView) (t u : ℕ) (p : Option ℕ) (w : ℕ) → w ≡ link_index p → MayRepublish k t u p
    → KeeperStores z k w (t + 1) (λ _. did (Republish t u) Done) (λ y n l. Makes (Republish t u) Done (Keeper y) (Keeper l) × RepublishTold (Republish t u) w y l)
republish_may z k t u p w is may = rw is (republish_at z k t u p may)
