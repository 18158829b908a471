-- A search: its events load by load, in one slot and from one to the next, and what stays so of an entry as a pass grows.
use Rattle.std.proofs.Common.{◌≡◌, ◌∙◌, ℕ, ◌+◌, ◌*◌, ◌≤◌, List, ◌++◌, Some, None, inl, inr, refl, ap, subst, append_assoc, arith, ◌<◌, ⊎_elim, length, sym, ◌≢◌, zero, suc, ◌-◌, Bool, true, false, Option, IfSome, take, drop}
use Rattle.std.proofs.lemmas.List.{length-append, take-append-drop}
use Rattle.std.proofs.lemmas.List.Elements.{All-append}
use Rattle.std.proofs.lemmas.Bool.{cases_lt}
use mathlib.Core.List.{IsPrefix}
use Rattle.passive_list.specs.Types.{Entry, Kind, Name, Key, Seek, LoadLink, LoadRecord, Compared, Reply, Done, Found, LogItem, Change, Settings, MOST_SLOTS, SearchPlace, AtNext, AtNumber, AtKind, AtHigh, AtLow, AtValue, On, CpuView}
use Rattle.registry_values.specs.Common.{are_words_of, kind_word}
use Rattle.protocol.specs.Common.{IsAttached, EndsAt, IsLegal, IsLiveAt, StandsOn, IsLawful, loaded_at, loaded_of_name, entry_with, seen_at, brought_by, ended_by}
use Rattle.protocol.specs.declared.event.RecordOf.TheVariants.{Search as OfSearch}
use Rattle.protocol.specs.History.{change_at, rank_at}
use Rattle.protocol.proofs.History.{Stood, stood, ends_after, at_prefix, ended_within, rank_same, rank_low, one_rank}
use Rattle.cpu_words.specs.Common.{KeepsPlace, did, key_with, link_answer, MayLoadLink, MayLoadSearched, IsAtWord, every_word, cpu_after_record_word, HasLoadedLink, HasLoadedWord, HasFollowed, PassTells, IsShownCpu, cpu_after_seek, search_for}
use Rattle.cpu_words.proofs.shown.Seeing.{attached_prefix, seen_of}
use Rattle.passive_list.specs.Common.{IsLoad, IsWalkLoad, GoesOnBySoMany, GoesOnByLoads, HasSearchedFor, SearchesOnce, HasWalkedBy, HasGoneOverBy, nobody, WasLive, Seen, entry_seen, search_at, IsUnderWay, cpu_with_search_at, after_visit, HasVisitedFrom, HasVisited, HasTaken, IsOn, IsAtLink, HasLookedUp}
use Rattle.passive_list.proofs.Ranks.{rank_out}
use Rattle.passive_list.proofs.Rows.{one_item}
use Rattle.registry_values.proofs.Fit.{Ranges, ranges}

more_items : (P : LogItem → Type 0) (m n : ℕ) (old between new : List LogItem) → GoesOnBySoMany P m old between → GoesOnBySoMany P n between new → GoesOnBySoMany P (m + n) old new
more_items P m n old between new first then = record {
  since = first.since ++ then.since;
  are = then.are ∙ ap (λ (ds : List LogItem). ds ++ then.since) first.are ∙ append_assoc old first.since then.since;
  only = All-append P first.since then.since first.only then.only;
  count = let both = length-append first.since then.since in omega (arith, both, first.count, then.count);
}

pub link_loaded : (c : ℕ) (reply : Reply) (old new : List LogItem) → new ≡ old ++ did (LoadLink c) reply → GoesOnByLoads c 1 old new
link_loaded c reply old new is = record { since = did (LoadLink c) reply; are = is; only = one_item (IsLoad c) _ (inl refl); count = refl }

pub word_loaded : (c : ℕ) (reply : Reply) (old new : List LogItem) → new ≡ old ++ did (LoadRecord (OfSearch c)) reply → GoesOnByLoads c 1 old new
word_loaded c reply old new is = record { since = did (LoadRecord (OfSearch c)) reply; are = is; only = one_item (IsLoad c) _ (inr refl); count = refl }

-- four words of a slot
pub four_loaded : (c : ℕ) (r s t u : Reply) (l0 l1 l2 l3 l4 : List LogItem) → l1 ≡ l0 ++ did (LoadRecord (OfSearch c)) r → l2 ≡ l1 ++ did (LoadRecord (OfSearch c)) s
    → l3 ≡ l2 ++ did (LoadRecord (OfSearch c)) t → l4 ≡ l3 ++ did (LoadRecord (OfSearch c)) u
    → GoesOnByLoads c 4 l0 l4
four_loaded c r s t u l0 l1 l2 l3 l4 first second third fourth =
    more_items (IsLoad c) 1 3 l0 l1 l4 (word_loaded c r l0 l1 first)
    (more_items (IsLoad c) 1 2 l1 l2 l4 (word_loaded c s l1 l2 second) (more_items (IsLoad c) 1 1 l2 l3 l4 (word_loaded c t l2 l3 third) (word_loaded c u l3 l4 fourth)))

-- the search begins
pub search_begun : (c : ℕ) (kind : Kind) (name : Name) (reply : Reply) (old new : List LogItem) → new ≡ old ++ (did (Seek c kind name) Done ++ did (LoadLink c) reply)
    → HasSearchedFor c (key_with kind name) 0 old new
search_begun c kind name reply old new is = link_loaded c reply (old ++ did (Seek c kind name) Done) new (rw append_assoc is)

-- one entry more was visited
pub one_visited : (c : ℕ) (key : Key) (n : ℕ) (old before between new : List LogItem) → HasSearchedFor c key n old before → GoesOnByLoads c 4 before between → GoesOnByLoads c 1 between new
    → HasSearchedFor c key (n + 1) old new
one_visited c key n old before between new so_far four last =
    let same : 1 + 5 * n + 5 ≡ 1 + 5 * (n + 1) = omega arith in
    let begun = old ++ did (Seek c key.kind key.name) Done in
    subst (λ (k : ℕ). GoesOnByLoads c k begun new) same (more_items (IsLoad c) (1 + 5 * n) 5 begun before new so_far (more_items (IsLoad c) 4 1 before between new four last))

-- The end of a search

-- the log ends with the load of the link n
abbrev pub EndsAtLink : ℕ → ℕ → List LogItem → Type 0
EndsAtLink c n log = (before : List LogItem) × (log ≡ before ++ did (LoadLink c) (link_answer n))

-- the link leads nowhere, so the search missed
pub search_missed : (c slots : ℕ) (key : Key) (n visited : ℕ) (old new : List LogItem) → n ≡ 0 → visited ≤ slots → HasSearchedFor c key visited old new → EndsAtLink c n new
    → (once : SearchesOnce c slots key None old new) × (once.visited ≡ visited)
search_missed c slots key n visited old new none few loads last =
    (record { visited = visited; few = few; loads = loads; ends = (last.0, last.1 ∙ ap (λ (m : ℕ). last.0 ++ did (LoadLink c) (link_answer m)) none) }, refl)

-- the value was loaded last, so the search found its entry
pub search_found : (c slots : ℕ) (key : Key) (e : Entry) (reply : Reply) (visited : ℕ) (old between new : List LogItem) → reply ≡ Found e → visited ≤ slots → HasSearchedFor c key visited old new
    → new ≡ between ++ did (LoadRecord (OfSearch c)) reply → SearchesOnce c slots key (Some e) old new
search_found c slots key e reply visited old between new is few loads last = record {
  visited = visited;
  few = few;
  loads = loads;
  ends = (between, last ∙ ap (λ (r : Reply). between ++ did (LoadRecord (OfSearch c)) r) is);
}

-- By a walk

-- all loads of a search are loads of the walk
of_search : (c n : ℕ) (old new : List LogItem) → GoesOnByLoads c n old new → GoesOnBySoMany (IsWalkLoad c) n old new
of_search c n old new goes = record { since = goes.since; are = goes.are; only = λ k d lt. inl (goes.only k d lt); count = goes.count }

-- the words of a slot
pub five_loaded : (c : ℕ) (reply : Reply) (old between new : List LogItem) → GoesOnByLoads c 4 old between → new ≡ between ++ did (LoadRecord (Compared c)) reply
    → GoesOnBySoMany (IsWalkLoad c) 5 old new
five_loaded c reply old between new four last = more_items (IsWalkLoad c) 4 1 old between new (of_search c 4 old between four)
    record { since = did (LoadRecord (Compared c)) reply; are = last; only = one_item (IsWalkLoad c) _ (inr refl); count = refl }

pub walk_begun : (c : ℕ) (reply : Reply) (old new : List LogItem) → new ≡ old ++ (did (Seek c nobody.kind nobody.name) Done ++ did (LoadLink c) reply) → HasWalkedBy c 0 old new
walk_begun c reply old new is = of_search c 1 (old ++ did (Seek c nobody.kind nobody.name) Done) new (search_begun c nobody.kind nobody.name reply old new is)

-- one entry more was gone by
pub one_gone_by : (c n : ℕ) (reply : Reply) (old before between new : List LogItem) → HasWalkedBy c n old before → GoesOnBySoMany (IsWalkLoad c) 5 before between
    → new ≡ between ++ did (LoadLink c) reply → HasWalkedBy c (n + 1) old new
one_gone_by c n reply old before between new so_far five last =
    let same : 1 + 6 * n + 6 ≡ 1 + 6 * (n + 1) = omega arith in
    let begun = old ++ did (Seek c nobody.kind nobody.name) Done in
    subst (λ (k : ℕ). GoesOnBySoMany (IsWalkLoad c) k begun new) same
    (more_items (IsWalkLoad c) (1 + 6 * n) 6 begun before new so_far (more_items (IsWalkLoad c) 5 1 before between new five (of_search c 1 between new (link_loaded c reply between new last))))

-- the link leads nowhere, so the walk is over
pub walk_over : (c slots n visited : ℕ) (old new : List LogItem) → n ≡ 0 → visited ≤ slots → HasWalkedBy c visited old new → EndsAtLink c n new → HasGoneOverBy c slots visited old new
walk_over c slots n visited old new none few loads last =
    record { few = few; loads = loads; ends = (last.0, last.1 ∙ ap (λ (m : ℕ). last.0 ++ did (LoadLink c) (link_answer m)) none) }

-- What stays so of an entry as a pass grows.

pub prefix_length : (p h : List Change) → IsPrefix p h → length p ≤ length h
prefix_length p h pre = omega (arith, length-append p pre.0, ap (λ (l : List Change). length l) pre.1)

-- a prefix has what the whole has there
same_at : (p h : List Change) (k : ℕ) → IsPrefix p h → k ≤ length p → change_at h k ≡ change_at p k
same_at p h k pre le = ap (λ l. change_at l k) (sym pre.1) ∙ at_prefix p pre.0 k le

pub ends_later : (p h : List Change) (n k : ℕ) → IsPrefix p h → EndsAt p n k → EndsAt h n k
ends_later p h n k pre ends = ap ended_by (same_at p h k pre (ended_within p n k ends).1) ∙ ends

-- its rank stays
pub rank_later : (p h : List Change) (n : ℕ) → IsPrefix p h → n ≤ length p → rank_at h n ≡ rank_at p n
rank_later p h n pre le = rank_same h p n (same_at p h n pre le)

pub stands_later : (p h : List Change) (from t : ℕ) (e : Entry) → IsPrefix p h → from ≤ length p → StandsOn p from (length p) t e → StandsOn h from (length h) t e
stands_later p h from t e pre le stands = record {
  attached = attached_prefix p h e pre stands.attached;
  at = stands.at;
  begun = omega (arith, stands.begun, prefix_length p h pre);
  unended = λ k ends. ⊎_elim
      (λ (lt : length p < k). omega (arith, lt, le))
      (λ (ge : k ≤ length p). stands.unended k (ap ended_by (sym (same_at p h k pre ge)) ∙ ends))
      (cases_lt (length p) k);
}

-- live at a later point of a longer pass, so at an earlier one of the pass
pub live_before : (p h : List Change) (j k : ℕ) (e : Entry) → IsPrefix p h → e.number ≤ j → j ≤ length p → j ≤ k → IsLiveAt h k e → IsLiveAt p j e
live_before p h j k e pre begun within le live = record {
  attached = ap brought_by (sym (same_at p h e.number pre (omega (arith, begun, within)))) ∙ live.attached;
  begun = begun;
  unended = λ i ends. omega (arith, le, live.unended i (ends_later p h e.number i pre ends));
}

-- live at a point of a pass, so at that point of a longer one
pub live_longer : (p h : List Change) (k : ℕ) (e : Entry) → IsPrefix p h → k ≤ length p → IsLiveAt p k e → IsLiveAt h k e
live_longer p h k e pre le live = record {
  attached = attached_prefix p h e pre live.attached;
  begun = live.begun;
  unended = λ i ends. ⊎_elim
      (λ (lt : length p < i). omega (arith, lt, le))
      (λ (ge : i ≤ length p). live.unended i (ap ended_by (sym (same_at p h i pre ge)) ∙ ends))
      (cases_lt (length p) i);
}

-- a place that is kept in a longer pass is kept in a shorter one
pub kept_before : (p h : List Change) (from : ℕ) (f : Entry) → IsLegal h → IsPrefix p h → from ≤ length p → KeepsPlace h from f → KeepsPlace p from f
kept_before p h from f legal pre low kept =
    let below : rank_at h kept.now.number ≤ length p = omega (arith, kept.rank, rank_low h legal f.number, kept.live.begun, low) in
    let s : Stood h (length p) kept.now = stood h legal (length h) (length p) kept.now kept.stays below (prefix_length p h pre) in
    record {
      live = live_before p h from from f pre kept.live.begun low (omega arith) kept.live;
      now = s.entry;
      stays = live_before p h (length p) (length p) s.entry pre s.live.begun (omega arith) (omega arith) s.live;
      rank = sym (rank_later p h s.entry.number pre s.live.begun) ∙ (s.rank ∙ (kept.rank ∙ rank_later p h f.number pre (omega (arith, kept.live.begun, low))));
    }

-- an entry on which a search may stand was live at some point since the search began
pub stood_was_live : (h : List Change) (from t : ℕ) (e : Entry) → IsLegal h → from ≤ length h → StandsOn h from (length h) t e → WasLive h from (length h) e
stood_was_live h from t e legal low stands = ⊎_elim
    (λ (lt : from < e.number). let live : IsLiveAt h e.number e = record { attached = stands.attached; begun = omega arith; unended = λ p ends. ends_after h legal e.number p ends } in
    record { point = e.number; from_on = omega (arith, lt); up_to = stands.begun; live = live })
    (λ (ge : e.number ≤ from). let live : IsLiveAt h from e = record { attached = stands.attached; begun = ge; unended = stands.unended } in
    record { point = from; from_on = omega arith; up_to = low; live = live })
    (cases_lt from e.number)

-- what it may stand on is what is live throughout, where their ranks are one
pub one_stood : (h : List Change) (from t : ℕ) (e f : Entry) → IsLegal h → from ≤ length h → StandsOn h from (length h) t e → IsLiveAt h from f → IsLiveAt h (length h) f
    → rank_at h e.number ≡ rank_at h f.number → e ≡ f
one_stood h from t e f legal low stands first last same =
    let was = stood_was_live h from t e legal low stands in
    let live : IsLiveAt h was.point f = record {
      attached = first.attached;
      begun = omega (arith, first.begun, was.from_on);
      unended = λ p ends. omega (arith, last.unended p ends, was.up_to);
    } in
    one_rank h legal was.point e f was.live live same

-- A search: its loads in one slot, and from one slot to the next.

pub prefix_trans : (p q r : List Change) → IsPrefix p q → IsPrefix q r → IsPrefix p r
prefix_trans p q r a b = (a.0 ++ b.0, sym (append_assoc p a.0 b.0) ∙ ap (λ l. l ++ b.0) a.1 ∙ b.1)

-- One load

-- the search goes on at another place
pub on_word : (x y : CpuView) (key : Key) (from : ℕ) (p q : SearchPlace) (n w : ℕ) → IsUnderWay x key from p → loaded_at (search_at key from p) p (every_word n) ≡ Some (On q w) → HasLoadedWord x n y
    → y ≡ cpu_with_search_at x key from q
on_word x y key from p q n w at on had = (had (search_at key from p) at).is ∙ ap (cpu_after_record_word x (search_at key from p)) on

pub goes_on : (x y : CpuView) (key : Key) (from : ℕ) (p q : SearchPlace) (n w : ℕ) → IsUnderWay x key from p → loaded_at (search_at key from p) p (every_word n) ≡ Some (On q w) → HasLoadedWord x n y
    → IsUnderWay y key from q
goes_on x y key from p q n w at on had = ap (λ (v : CpuView). v.search) (on_word x y key from p q n w at on had)

pub may_load : (x : CpuView) (key : Key) (from t k : ℕ) (p : SearchPlace) → IsUnderWay x key from p → IsAtWord p t k → MayLoadSearched x t k
may_load x key from t k p at word = record { search = search_at key from p; under_way = at; place = word }

-- after the number, the kind and the high word of the name
pub at_kind : (x y : CpuView) (key : Key) (from t n : ℕ) → IsUnderWay x key from (AtNumber t) → HasLoadedWord x n y → IsUnderWay y key from (AtKind t n)
at_kind x y key from t n at had = goes_on x y key from (AtNumber t) (AtKind t n) n n at refl had

pub at_high : (x y z : CpuView) (key : Key) (from t n k : ℕ) → IsUnderWay x key from (AtNumber t) → HasLoadedWord x n y → HasLoadedWord y k z → IsUnderWay z key from (AtHigh t n k)
at_high x y z key from t n k at first had = goes_on y z key from (AtKind t n) (AtHigh t n k) k k (at_kind x y key from t n at first) refl had

pub at_low : (w x y z : CpuView) (key : Key) (from t n k h : ℕ) → IsUnderWay w key from (AtNumber t) → HasLoadedWord w n x → HasLoadedWord x k y → HasLoadedWord y h z
    → IsUnderWay z key from (AtLow t n k h)
at_low w x y z key from t n k h at first second had = goes_on y z key from (AtHigh t n k) (AtLow t n k h) h h (at_high w x y key from t n k at first second) refl had

pub may_follow : (x : CpuView) (key : Key) (from t : ℕ) → IsUnderWay x key from (AtNext t) → MayLoadLink x t
may_follow x key from t at = record { search = search_at key from (AtNext t); under_way = at; place = refl }

-- One slot

pub judged_at : (t n l : ℕ) (b : Bool) → loaded_of_name t n l b ≡ On (after_visit t n b) l
judged_at t n l true = refl
judged_at t n l false = refl

-- the words that the search compares were loaded: they are those of an entry on which it may stand, and it is at q then
pub record HasPassed (x : CpuView) (key : Key) (from t n k h l : ℕ) (q : SearchPlace) (y : CpuView) : Type 0 where
  pub is : y ≡ cpu_with_search_at x key from q
  pub entry : Entry
  pub stands : StandsOn x.pass from (length x.pass) t entry
  pub number : entry.number ≡ n
  pub kind : kind_word entry.rec.kind ≡ k
  pub high : entry.rec.name.high ≡ h
  pub low : entry.rec.name.low ≡ l

pub passed : (x y1 y2 y3 y4 : CpuView) (key : Key) (from t n k h l : ℕ) → HasLoadedWord x n y1 → HasLoadedWord y1 k y2 → HasLoadedWord y2 h y3 → HasLoadedWord y3 l y4
    → IsUnderWay x key from (AtNumber t) → HasPassed x key from t n k h l (after_visit t n (are_words_of key k h l)) y4
passed x y1 y2 y3 y4 key from t n k h l had1 had2 had3 had4 at =
    let is1 : y1 ≡ cpu_with_search_at x key from (AtKind t n) = on_word x y1 key from (AtNumber t) (AtKind t n) n n at refl had1 in
    let at1 : IsUnderWay y1 key from (AtKind t n) = ap (λ (v : CpuView). v.search) is1 in
    let is2 : y2 ≡ cpu_with_search_at x key from (AtHigh t n k) =
    on_word y1 y2 key from (AtKind t n) (AtHigh t n k) k k at1 refl had2 ∙ ap (λ v. cpu_with_search_at v key from (AtHigh t n k)) is1 in
    let at2 : IsUnderWay y2 key from (AtHigh t n k) = ap (λ (v : CpuView). v.search) is2 in
    let is3 : y3 ≡ cpu_with_search_at x key from (AtLow t n k h) =
    on_word y2 y3 key from (AtHigh t n k) (AtLow t n k h) h h at2 refl had3 ∙ ap (λ v. cpu_with_search_at v key from (AtLow t n k h)) is2 in
    let at3 : IsUnderWay y3 key from (AtLow t n k h) = ap (λ (v : CpuView). v.search) is3 in
    let q = after_visit t n (are_words_of key k h l) in
    let on : loaded_at (search_at key from (AtLow t n k h)) (AtLow t n k h) (every_word l) ≡ Some (On q l) = ap Some (judged_at t n l (are_words_of key k h l)) in
    let is4 : y4 ≡ cpu_with_search_at x key from q = on_word y3 y4 key from (AtLow t n k h) q l l at3 on had4 ∙ ap (λ v. cpu_with_search_at v key from q) is3 in
    let number = (had1 (search_at key from (AtNumber t)) at).number t refl in
    let stands : StandsOn x.pass from (length x.pass) t number.0 = subst (λ (p : List Change). StandsOn p from (length p) t number.0) (ap (λ (v : CpuView). v.pass) is1) number.1 in
    let there = λ (p : List Change) (same : p ≡ x.pass). subst (λ (i : List Change). StandsOn i from (length i) t number.0) (sym same) stands in
    record {
      is = is4;
      entry = number.0;
      stands = stands;
      number = number.2;
      kind = (had2 (search_at key from (AtKind t n)) at1).words t 1 number.0 (refl, refl) (there y2.pass (ap (λ (v : CpuView). v.pass) is2));
      high = (had3 (search_at key from (AtHigh t n k)) at2).words t 2 number.0 (refl, refl) (there y3.pass (ap (λ (v : CpuView). v.pass) is3));
      low = (had4 (search_at key from (AtLow t n k h)) at3).words t 3 number.0 (refl, refl) (there y4.pass (ap (λ (v : CpuView). v.pass) is4));
    }

pub visited : (x y1 y2 y3 y4 : CpuView) (key : Key) (t n k h l : ℕ) → HasLoadedWord x n y1 → HasLoadedWord y1 k y2 → HasLoadedWord y2 h y3 → HasLoadedWord y3 l y4
    → HasVisited x key t n (are_words_of key k h l) y4
visited x y1 y2 y3 y4 key t n k h l had1 had2 had3 had4 from at = let v = passed x y1 y2 y3 y4 key from t n k h l had1 had2 had3 had4 at in record { is = v.is; entry = v.entry; stands = v.stands; number = v.number }

took : (x y : CpuView) (key : Key) (t n value : ℕ) → HasLoadedWord x value y → HasTaken x key t n (entry_with key t n value) y
took x y key t n value had from at =
    let there = had (search_at key from (AtValue t n)) at in
    let pass : y.pass ≡ x.pass = ap (λ (v : CpuView). v.pass) there.is in
    record {
      is = there.is;
      lawful = subst (λ (p : List Change). IsLawful p from (length p) key (Some (entry_with key t n value))) pass there.holds.0;
      attached = subst (λ (p : List Change). IsAttached p (entry_with key t n value)) pass there.holds.1;
    }

-- From one slot to the next

-- the slot of a link
pub on_slot : (key : Key) (x y : CpuView) (n last : ℕ) → n ≢ 0 → IsAtLink key x n last y → IsOn key x (n - 1) last y
on_slot key x y zero last some at = absurd (some refl)
on_slot key x y (suc t) last some at = let same : suc t - 1 ≡ t = omega arith in subst (λ u. IsOn key x u last y) (sym same) at

-- the search is under way there
pub on_way : (key : Key) (x y : CpuView) (t last : ℕ) → IsOn key x t last y → IsUnderWay y key (length x.pass) (AtNumber t)
on_way key x y t last on = ap (λ (v : CpuView). v.search) on.is

-- the rank there is below the last one
pub rank_falls : (key : Key) (x y z w : CpuView) (t n m last : ℕ) → IsOn key x t last y → HasVisited y key t n false z → HasLoadedLink z m w → rank_at w.pass n < rank_at y.pass last
rank_falls key x y z w t n m last on had loaded_link =
    let v = had (length x.pass) (on_way key x y t last on) in
    let followed = loaded_link (search_at key (length x.pass) (AtNext t)) (ap (λ (u : CpuView). u.search) v.is) in
    let more : IsPrefix y.pass w.pass = subst (λ (p : List Change). IsPrefix p w.pass) (ap (λ (u : CpuView). u.pass) v.is) followed.pass in
    let same : rank_at w.pass v.entry.number ≡ rank_at y.pass v.entry.number = rank_later y.pass w.pass v.entry.number more v.stands.begun in
    omega (arith, on.below v.entry v.stands, same, ap (rank_at w.pass) v.number)

-- the head was loaded: all ranks are below a number that no history has
pass_low : (y : CpuView) (shown : IsShownCpu y) → length y.pass ≤ shown.g.settings.change_limit
pass_low y shown =
    let g = shown.g in
    let seen = seen_of g y shown.good shown.shown in
    let n : ℕ = seen_at g y.id in
    omega (arith, ap (λ (l : List Change). length l) seen.pass, prefix_length (take n g.history) g.history (drop n g.history, take-append-drop n g.history), shown.good.holds.room)

pub link_begun : (key : Key) (x y : CpuView) (m above : ℕ) → ((z : Settings) → Ranges z → z.change_limit < above) → IsShownCpu y → HasFollowed (cpu_after_seek key x) (search_for key x) m y → IsAtLink key x m above y
link_begun key x y zero above high shown had = record { pass = had.pass; is = had.is; lawful = had.holds; tells = had.tells }
link_begun key x y (suc t) above high shown had = record {
  pass = had.pass;
  is = had.is;
  slot = had.holds;
  below = λ e stands.
      let low : length y.pass < above = omega (arith, pass_low y shown, high shown.g.settings (ranges shown.g.settings shown.good.holds.fit)) in
      omega (arith, rank_low y.pass had.tells.legal e.number, stands.begun, low, rank_out y.pass above low);
  tells = had.tells;
}

-- the view after the visit
left_slot : (key : Key) (x y z : CpuView) (t n last : ℕ) (b : Bool) → IsOn key x t last y → HasVisitedFrom y key (length x.pass) t n b z
    → z ≡ record x { pass = y.pass; search = Some (search_at key (length x.pass) (after_visit t n b)) }
left_slot key x y z t n last b on v = v.is ∙ ap (λ u. cpu_with_search_at u key (length x.pass) (after_visit t n b)) on.is

-- the link of a slot was loaded
followed_on : (key : Key) (x y z w : CpuView) (t n m last : ℕ) → IsOn key x t last y → HasVisitedFrom y key (length x.pass) t n false z → HasFollowed z (search_at key (length x.pass) (AtNext t)) m w
    → IsAtLink key x m n w
followed_on key x y z w t n zero last on v had =
    let left = left_slot key x y z t n last false on v in
    record {
      pass = prefix_trans x.pass y.pass w.pass on.pass (subst (λ p. IsPrefix p w.pass) (ap (λ (u : CpuView). u.pass) left) had.pass);
      is = had.is ∙ ap (λ (u : CpuView). record u { pass = w.pass; search = None; found = None }) left;
      lawful = had.holds;
      tells = subst (λ (b : Option ℕ). PassTells b (length x.pass) w.pass) (ap (λ (u : CpuView). u.begin) left) had.tells;
    }
followed_on key x y z w t n (suc u) last on v had =
    let left = left_slot key x y z t n last false on v in
    let pass : z.pass ≡ y.pass = ap (λ (u : CpuView). u.pass) left in
    record {
      pass = prefix_trans x.pass y.pass w.pass on.pass (subst (λ p. IsPrefix p w.pass) pass had.pass);
      is = had.is ∙ ap (λ (i : CpuView). record i { pass = w.pass; search = Some (search_at key (length x.pass) (AtNumber u)) }) left;
      slot = (subst (λ (n : ℕ). u < n) (ap (λ (i : CpuView). i.settings.slots) left) had.holds.0, had.holds.1);
      below = λ f stands. omega (arith, had.descends t refl v.entry f (subst (λ (p : List Change). StandsOn p (length x.pass) (length p) t v.entry) (sym pass) v.stands) stands, ap (rank_at w.pass) v.number);
      tells = subst (λ (b : Option ℕ). PassTells b (length x.pass) w.pass) (ap (λ (u : CpuView). u.begin) left) had.tells;
    }

pub follows : (key : Key) (x y z w : CpuView) (t n m last : ℕ) → IsOn key x t last y → HasVisited y key t n false z → HasLoadedLink z m w → IsAtLink key x m n w
follows key x y z w t n m last on had loaded_link =
    let v = had (length x.pass) (on_way key x y t last on) in
    let at : IsUnderWay z key (length x.pass) (AtNext t) = ap (λ (u : CpuView). u.search) v.is in
    followed_on key x y z w t n m last on v (loaded_link (search_at key (length x.pass) (AtNext t)) at)

-- the search may take the value, or follow the link, where the visit says so
pub may_take : (key : Key) (x y z : CpuView) (t n last : ℕ) → IsOn key x t last y → HasVisited y key t n true z → MayLoadSearched z t 4
may_take key x y z t n last on had = may_load z key (length x.pass) t 4 (AtValue t n) (ap (λ (u : CpuView). u.search) (had (length x.pass) (on_way key x y t last on)).is) (refl, refl)

pub may_go : (key : Key) (x y z : CpuView) (t n last : ℕ) → IsOn key x t last y → HasVisited y key t n false z → MayLoadLink z t
may_go key x y z t n last on had = may_follow z key (length x.pass) t (ap (λ (u : CpuView). u.search) (had (length x.pass) (on_way key x y t last on)).is)

-- it is the same CPU's view
pub visit_id : (key : Key) (x y z : CpuView) (t n last : ℕ) (b : Bool) → IsOn key x t last y → HasVisited y key t n b z → z.id ≡ y.id
visit_id key x y z t n last b on had = ap (λ (u : CpuView). u.id) (had (length x.pass) (on_way key x y t last on)).is

pub follow_id : (key : Key) (x w : CpuView) (m n : ℕ) → IsAtLink key x m n w → w.id ≡ x.id
follow_id key x w zero n at = ap (λ (u : CpuView). u.id) at.is
follow_id key x w (suc t) n at = ap (λ (u : CpuView). u.id) at.is

-- The whole search

pub found : (key : Key) (x y z w : CpuView) (t n value last : ℕ) → IsOn key x t last y → HasVisited y key t n true z → HasLoadedWord z value w → HasLookedUp key x w (Some (entry_with key t n value))
found key x y z w t n value last on had last_word =
    let e = entry_with key t n value in
    let taken = took z w key t n value last_word in
    let v = had (length x.pass) (on_way key x y t last on) in
    let left = left_slot key x y z t n last true on v in
    let f = taken (length x.pass) (ap (λ (u : CpuView). u.search) v.is) in
    let to_z : w.pass ≡ z.pass = ap (λ (u : CpuView). u.pass) f.is in
    let to_y : z.pass ≡ y.pass = ap (λ (u : CpuView). u.pass) left in
    let is0 : w ≡ record x { pass = y.pass; search = None; found = Some e } = f.is ∙ ap (λ (u : CpuView). record u { search = None; found = Some e }) left in
    record {
      pass = subst (λ p. IsPrefix x.pass p) (sym (to_z ∙ to_y)) on.pass;
      is = is0 ∙ ap (λ (p : List Change). record x { pass = p; search = None; found = Some e }) (sym (to_z ∙ to_y));
      lawful = subst (λ (p : List Change). IsLawful p (length x.pass) (length p) key (Some e)) (sym to_z) f.lawful;
      seen = λ g (q : Some e ≡ Some g).
          let same : e ≡ g = cc in
          subst (λ (i : Entry). (i.slot < x.settings.slots) × (i.slot < MOST_SLOTS) × IsAttached w.pass i) same (on.slot.0, on.slot.1, subst (λ (p : List Change). IsAttached p e) (sym to_z) f.attached);
      tells = subst (λ (p : List Change). PassTells x.begin (length x.pass) p) (sym (to_z ∙ to_y)) on.tells;
    }

-- the slot of what a search found
pub slots_seen : (key : Key) (x y : CpuView) (s : Option Seen) (z : Settings) → HasLookedUp key x y (entry_seen key s) → x.settings ≡ z → IfSome s (λ (r : Seen). (r.slot < MOST_SLOTS) × (r.slot < z.slots))
slots_seen key x y None z had same = tt
slots_seen key x y (Some r) z had same =
    let e = had.seen (entry_with key r.slot r.number r.value) refl in (e.1, subst (λ (i : Settings). r.slot < i.slots) same e.0)

pub slot_seen : (key : Key) (x y : CpuView) (s : Option Seen) → HasLookedUp key x y (entry_seen key s) → IfSome s (λ (r : Seen). r.slot < MOST_SLOTS)
slot_seen key x y None had = tt
slot_seen key x y (Some r) had = (had.seen (entry_with key r.slot r.number r.value) refl).1
