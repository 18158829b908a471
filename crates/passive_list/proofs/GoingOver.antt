-- A walk: its search goes by each slot on the list, and a link leads past none that has been live since. So the row has each entry that is live throughout.
use Rattle.std.proofs.Common.{◌≡◌, ◌≢◌, ◌⊎◌, inl, inr, ⊎_elim, ℕ, zero, suc, ◌+◌, ◌-◌, ◌≤◌, ◌<◌, Bool, true, false, ◌&&◌, ◌==◌, List, [], ◌∷◌, ◌++◌, map, length, get_or, set, take, drop, Option, Some, None, refl, sym, ap, ◌∙◌, subst, arith, length-append, true≢false, eqb, eqb-true, drop-set-lt, drop-drop}
use Rattle.std.proofs.lemmas.List.{length-map, map-append, map-id, get_or-map, take_all, take-append-le, take_more_set, set_past}
use Rattle.std.proofs.lemmas.List.Elements.{Contains-get_or, Contains-push, Contains-push_cases, Contains-append_left}
use Rattle.std.proofs.lemmas.List.Quantifiers.{all_pairs_push}
use Rattle.std.proofs.lemmas.List.Folds.{Any-from_list_any}
use Rattle.std.proofs.lemmas.Map.Made.{IsDistinct-from_AllPairs}
use Rattle.std.proofs.lemmas.Map.Steps.{length-le_from_distinct_below}
use Rattle.std.proofs.lemmas.Bool.{cases_lt, and_parts}
use Rattle.std.proofs.lemmas.Bool.Decides.{Decides-eqb}
use Rattle.std.specs.List.{AllPairs, Contains, list_any}
use mathlib.Core.List.{IsPrefix}
use Rattle.passive_list.specs.Types.{Entry, Kind, Driver, Iface, Name, Change, MOST_SLOTS, AtNext, AtNumber, Search, CpuView}
use Rattle.registry_values.specs.Names.{are_key_words}
use Rattle.registry_values.specs.Common.{are_words_of, kind_word}
use Rattle.protocol.specs.Common.{StandsOn}
use Rattle.protocol.proofs.History.{rank_low}
use Rattle.cpu_words.specs.Common.{KeepsPlace, MayLoadLink, PassTells, SkipsNone, Descends, LinkHolds, HasLoadedLink, HasLoadedWord, HasFollowed, IsValueThere, cpu_after_seek, cpu_after_link, search_for}
use Rattle.passive_list.specs.Common.{OnCpu, search_at, IsUnderWay, cpu_with_search_at, after_visit, nobody, AreStoodOn, MayGoBy, HasGoneByFrom, HasGoneByOne, view_at_link, HasPlaceOf, GoesOnAt, IsGoingOver, HasGoneOver, HasGoneOverBy, HasWalked, IsWritten}
use Rattle.passive_list.proofs.Walking.{HasPassed, passed, prefix_trans, may_follow, prefix_length, kept_before, stands_later, stood_was_live, rank_later, one_stood}
use Rattle.protocol.specs.History.{rank_at}

-- One slot

-- no entry's name is two words of 0
pub no_zeros : are_key_words 0 0 ≡ true → ⊥
unfolding are_key_words
no_zeros e = absurd (true≢false (sym e))

unnamed : (kind high low : ℕ) → are_key_words high low ≡ true → are_words_of nobody kind high low ≡ false
unnamed kind high low named = by_cases (are_words_of nobody kind high low) refl
  where
    by_cases : (b : Bool) → are_words_of nobody kind high low ≡ b → are_words_of nobody kind high low ≡ false
    by_cases false is = is
    by_cases true is =
        let both = and_parts (high == 0) (low == 0) (and_parts (kind == 1) (high == 0 && low == 0) is).1 in
        absurd (no_zeros (sym (λ i. are_key_words (eqb-true high 0 both.0 i) (eqb-true low 0 both.1 i)) ∙ named))

-- the words are not those that the search seeks
pub compared : (x y1 y2 y3 y4 : CpuView) (from t n k h l : ℕ) → HasLoadedWord x n y1 → HasLoadedWord y1 k y2 → HasLoadedWord y2 h y3 → HasLoadedWord y3 l y4
    → IsUnderWay x nobody from (AtNumber t) → PassTells x.begin from x.pass → HasPassed x nobody from t n k h l (AtNext t) y4
compared x y1 y2 y3 y4 from t n k h l had1 had2 had3 had4 at tells =
    let v = passed x y1 y2 y3 y4 nobody from t n k h l had1 had2 had3 had4 at in
    let named : are_key_words h l ≡ true = sym (λ i. are_key_words (v.high i) (v.low i)) ∙ tells.named t v.entry v.stands in
    subst (λ (b : Bool). HasPassed x nobody from t n k h l (after_visit t n b) y4) (unnamed k h l named) v

-- one word is of one kind
pub one_kind : (c d : Kind) → kind_word c ≡ kind_word d → c ≡ d
one_kind Iface Iface is = refl
one_kind Iface Driver is = absurd (omega (arith, is))
one_kind Driver Iface is = absurd (omega (arith, is))
one_kind Driver Driver is = refl

-- and so was the value
pub gone_by : (x y z : CpuView) (from t n k h l value : ℕ) (kind : Kind) (name : Name) → HasPassed x nobody from t n k h l (AtNext t) y → IsValueThere y t value → z ≡ y
    → ((c : Kind) → k ≡ kind_word c → kind ≡ c) → name ≡ record { high = h; low = l } → HasGoneByFrom x from t (record { number = n; slot = t; rec = record { kind = kind; name = name; value = value } }) z
gone_by x y z from t n k h l value kind name had there same kinds named =
    let e = had.entry in
    let value_is : e.rec.value ≡ value = there (search_at nobody from (AtNext t)) e (ap (λ (v : CpuView). v.search) had.is)
    (subst (λ (p : List Change). StandsOn p from (length p) t e) (sym (ap (λ (v : CpuView). v.pass) had.is)) had.stands) in
    let name_is : e.rec.name ≡ name = (λ i. record { high = had.high i; low = had.low i }) ∙ sym named in
    let entry_is : e ≡ record { number = n; slot = t; rec = record { kind = kind; name = name; value = value } } =
    λ i. record { number = had.number i; slot = had.stands.at i; rec = record { kind = sym (kinds e.rec.kind (sym had.kind)) i; name = name_is i; value = value_is i } } in
    record { is = same ∙ had.is; stands = subst (StandsOn x.pass from (length x.pass) t) entry_is had.stands }

-- No more than there are slots

-- entries on which one search may stand have slots of their own
pub few_stood_on : (begin : Option ℕ) (h : List Change) (from slots : ℕ) (es : List Entry) → PassTells begin from h → AreStoodOn h from slots es → (length es ≤ slots) × (length es ≤ MOST_SLOTS)
few_stood_on begin h from slots es tells on = (few slots (λ e there. (on.slot e there).0), few MOST_SLOTS (λ e there. (on.slot e there).1))
  where
    blank : Entry
    blank = record { number = 0; slot = 0; rec = record { kind = Iface; name = record { high = 0; low = 0 }; value = 0 } }

    used : List ℕ
    used = map (λ (e : Entry). e.slot) es

    size : length used ≡ length es
    size = length-map es (λ (e : Entry). e.slot)

    slot_of : (i d : ℕ) → i < length es → get_or used i d ≡ (get_or es i blank).slot
    slot_of i d lt = get_or-map (λ (e : Entry). e.slot) es i blank d lt

    at : (i : ℕ) → i < length es → StandsOn h from (length h) (get_or es i blank).slot (get_or es i blank)
    at i lt = on.stands (get_or es i blank) (Contains-get_or es i blank lt)

    pairs : AllPairs (λ (a b : ℕ). a ≢ b) used
    pairs i j d lt within same =
        let high : j < length es = omega (arith, within, size) in
        let low : i < length es = omega (arith, high, lt) in
        let e = get_or es i blank in
        let f = get_or es j blank in
        let shared : e.slot ≡ f.slot = sym (slot_of i d low) ∙ same ∙ slot_of j d high in
        let one : e ≡ f = tells.one f.slot e f (subst (λ (t : ℕ). StandsOn h from (length h) t e) shared (at i low)) (at j high) in
        omega (arith, on.newest_first i j blank lt high, ap (λ (g : Entry). rank_at h g.number) one)

    below : (most : ℕ) → ((e : Entry) → Contains es e → e.slot < most) → (q : ℕ) → list_any (eqb q) used ≡ true → q < most
    below most within q is =
        let found = Any-from_list_any (eqb q) used is in
        let lt : found.0 < length es = omega (arith, found.2, size) in
        omega (arith, eqb-true q found.1 found.4, found.3, slot_of found.0 found.1 lt, within (get_or es found.0 blank) (Contains-get_or es found.0 blank lt))

    few : (most : ℕ) → ((e : Entry) → Contains es e → e.slot < most) → length es ≤ most
    few most within = omega (arith, size, length-le_from_distinct_below used most (IsDistinct-from_AllPairs Decides-eqb used pairs) (below most within))

-- From one slot to the next

-- none
pub none_stood_on : (h : List Change) (from slots : ℕ) → AreStoodOn h from slots []
none_stood_on h from slots = record { stands = λ e there. absurd (omega (arith, there.1)); slot = λ e there. absurd (omega (arith, there.1)); newest_first = λ i j d lt within. absurd (omega (arith, within)) }

-- the head was loaded
pub going_begins : (x y : CpuView) (m : ℕ) → HasFollowed (cpu_after_seek nobody x) (search_for nobody x) m y → IsGoingOver x [] m y
going_begins x y m had = record {
  pass = had.pass;
  is = is_at m had.is;
  tells = had.tells;
  over = none_stood_on y.pass (length x.pass) x.settings.slots;
  goes_on = goes_on m had.holds (had.first refl);
}
  where
    is_at : (m : ℕ) → y ≡ cpu_after_link (cpu_after_seek nobody x) (search_for nobody x) m y.pass → y ≡ view_at_link x m y.pass
    is_at zero is = is
    is_at (suc t) is = is

    low : (f : Entry) → KeepsPlace y.pass (length x.pass) f → rank_at y.pass f.number < suc (length y.pass)
    low f kept = omega (arith, kept.live.begun, prefix_length x.pass y.pass had.pass, rank_low y.pass had.tells.legal f.number)

    goes_on : (m : ℕ) → LinkHolds x.settings (search_for nobody x) m y.pass → SkipsNone y.pass (length x.pass) (suc (length y.pass)) m → GoesOnAt y.pass (length x.pass) x.settings.slots [] m
    goes_on zero holds skips = λ f kept. absurd (skips f kept (low f kept))
    goes_on (suc t) holds skips = (holds, λ e stands. (λ f there. absurd (omega (arith, there.1)), λ f kept. inl (skips e f stands kept (low f kept))))

-- the search is under way at the slot of the link, and its section is the one that was open
pub going_on : (x y : CpuView) (es : List Entry) (t : ℕ) → IsGoingOver x es (suc t) y → IsUnderWay y nobody (length x.pass) (AtNumber t)
going_on x y es t at = ap (λ (v : CpuView). v.search) at.is

tells_on : (x y : CpuView) (es : List Entry) (t : ℕ) → IsGoingOver x es (suc t) y → PassTells y.begin (length x.pass) y.pass
tells_on x y es t at = subst (λ (b : Option ℕ). PassTells b (length x.pass) y.pass) (sym (ap (λ (v : CpuView). v.begin) at.is)) at.tells

pub gone_by_there : (x y z : CpuView) (es : List Entry) (t : ℕ) (e : Entry) → IsGoingOver x es (suc t) y → HasGoneByOne y t e z → HasGoneByFrom y (length x.pass) t e z
gone_by_there x y z es t e at had = had (length x.pass) (going_on x y es t at) (tells_on x y es t at)

-- the entry there is one more
pub stood_on_more : (h : List Change) (from slots t : ℕ) (es : List Entry) (e : Entry) → AreStoodOn h from slots es → StandsOn h from (length h) t e → (t < slots) × (t < MOST_SLOTS)
    → ((f : Entry) → Contains es f → rank_at h e.number < rank_at h f.number) → AreStoodOn h from slots (es ++ e ∷ [])
stood_on_more h from slots t es e on stands low newer = record {
  stands = λ f there. ⊎_elim
      (λ (old : Contains es f). on.stands f old)
      (λ (same : e ≡ f). subst (λ (g : Entry). StandsOn h from (length h) g.slot g) same (subst (λ (u : ℕ). StandsOn h from (length h) u e) (sym stands.at) stands))
      (Contains-push_cases es e f there);
  slot = λ f there. ⊎_elim
      (λ (old : Contains es f). on.slot f old)
      (λ (same : e ≡ f). subst (λ (u : ℕ). (u < slots) × (u < MOST_SLOTS)) (sym stands.at ∙ ap (λ (g : Entry). g.slot) same) low)
      (Contains-push_cases es e f there);
  newest_first = all_pairs_push (λ (d f : Entry). rank_at h f.number < rank_at h d.number) es e on.newest_first (λ k d lt. newer (get_or es k d) (Contains-get_or es k d lt));
}

pub stood_later : (p h : List Change) (from slots : ℕ) (es : List Entry) → IsPrefix p h → from ≤ length p → AreStoodOn p from slots es → AreStoodOn h from slots es
stood_later p h from slots es more low on = record {
  stands = λ e there. stands_later p h from e.slot e more low (on.stands e there);
  slot = on.slot;
  newest_first = λ i j d lt within.
      let rank : (k : ℕ) → k < length es → rank_at h (get_or es k d).number ≡ rank_at p (get_or es k d).number = λ k low_k.
      rank_later p h (get_or es k d).number more (on.stands (get_or es k d) (Contains-get_or es k d low_k)).begun in
      omega (arith, on.newest_first i j d lt within, rank i (omega (arith, lt, within)), rank j within);
}

with_next : (x y : CpuView) (es : List Entry) (t : ℕ) (e : Entry) → IsGoingOver x es (suc t) y → StandsOn y.pass (length x.pass) (length y.pass) t e
    → AreStoodOn y.pass (length x.pass) x.settings.slots (es ++ e ∷ [])
with_next x y es t e at stands = stood_on_more y.pass (length x.pass) x.settings.slots t es e at.over stands at.goes_on.0 (at.goes_on.1 e stands).0

-- so there is room for it
pub room_for_next : (x y z : CpuView) (es : List Entry) (t : ℕ) (e : Entry) → IsGoingOver x es (suc t) y → HasGoneByOne y t e z → length es < MOST_SLOTS
room_for_next x y z es t e at had =
    let v = gone_by_there x y z es t e at had in
    omega (arith, (few_stood_on x.begin y.pass (length x.pass) x.settings.slots (es ++ e ∷ []) at.tells (with_next x y es t e at v.stands)).1, length-append es (e ∷ []))

-- its link was loaded
view_after : (x y z w : CpuView) (t m : ℕ) → y ≡ view_at_link x (suc t) y.pass → z ≡ cpu_with_search_at y nobody (length x.pass) (AtNext t)
    → w ≡ cpu_after_link z (search_at nobody (length x.pass) (AtNext t)) m w.pass → w ≡ view_at_link x m w.pass
view_after x y z w t zero is_y is_z is_w =
    is_w ∙ ap (λ (u : CpuView). record u { pass = w.pass; search = None; found = None }) (is_z ∙ ap (λ (u : CpuView). cpu_with_search_at u nobody (length x.pass) (AtNext t)) is_y)
view_after x y z w t (suc u) is_y is_z is_w =
    is_w ∙ ap (λ (v : CpuView). record v { pass = w.pass; search = Some (search_at nobody (length x.pass) (AtNumber u)) })
    (is_z ∙ ap (λ (v : CpuView). cpu_with_search_at v nobody (length x.pass) (AtNext t)) is_y)

pub goes_by_next : (x y z w : CpuView) (es : List Entry) (t m : ℕ) (e : Entry) → IsGoingOver x es (suc t) y → HasGoneByOne y t e z → HasLoadedLink z m w
    → IsGoingOver x (es ++ e ∷ []) m w
goes_by_next x y z w es t m e at had loaded_link =
    record {
      pass = prefix_trans x.pass y.pass w.pass at.pass more;
      is = view_after x y z w t m at.is v.is followed.is;
      tells = subst (λ (b : Option ℕ). PassTells b from w.pass) (ap (λ (u : CpuView). u.begin) v.is ∙ ap (λ (u : CpuView). u.begin) at.is) followed.tells;
      over = stood_later y.pass w.pass from x.settings.slots (es ++ e ∷ []) more low (with_next x y es t e at v.stands);
      goes_on = goes_on m followed.holds (followed.next t e refl stands_z) (followed.descends t refl);
    }
  where
    from : ℕ
    from = length x.pass

    v : HasGoneByFrom y from t e z
    v = gone_by_there x y z es t e at had

    followed : HasFollowed z (search_at nobody from (AtNext t)) m w
    followed = loaded_link (search_at nobody from (AtNext t)) (ap (λ (u : CpuView). u.search) v.is)

    same : z.pass ≡ y.pass
    same = ap (λ (u : CpuView). u.pass) v.is

    more : IsPrefix y.pass w.pass
    more = subst (λ p. IsPrefix p w.pass) same followed.pass

    low : from ≤ length y.pass
    low = prefix_length x.pass y.pass at.pass

    stands_z : StandsOn z.pass from (length z.pass) t e
    stands_z = subst (λ (p : List Change). StandsOn p from (length p) t e) (sym same) v.stands

    rank_of_e : rank_at w.pass e.number ≡ rank_at y.pass e.number
    rank_of_e = rank_later y.pass w.pass e.number more v.stands.begun

    -- a place that is kept in the longer pass is kept in the shorter one
    earlier : (f : Entry) → KeepsPlace w.pass from f → KeepsPlace y.pass from f
    earlier f kept = kept_before y.pass w.pass from f followed.tells.legal more low kept

    rank_of : (f : Entry) → KeepsPlace w.pass from f → rank_at w.pass f.number ≡ rank_at y.pass f.number
    rank_of f kept = rank_later y.pass w.pass f.number more (omega (arith, kept.live.begun, low))

    -- so it is below e, or gone by
    cases : (f : Entry) → KeepsPlace w.pass from f → (rank_at w.pass f.number < rank_at w.pass e.number) ⊎ HasPlaceOf w.pass (es ++ e ∷ []) f
    cases f kept = ⊎_elim
        (λ (le : rank_at y.pass f.number ≤ rank_at y.pass e.number). ⊎_elim
        (λ (lt : rank_at y.pass f.number < rank_at y.pass e.number). inl (omega (arith, lt, rank_of_e, rank_of f kept)))
        (λ (ge : rank_at y.pass e.number ≤ rank_at y.pass f.number). inr (e, Contains-push es e, omega (arith, le, ge, rank_of_e, rank_of f kept)))
        (cases_lt (rank_at y.pass f.number) (rank_at y.pass e.number)))
        (λ (old : HasPlaceOf y.pass es f).
        inr (old.0, Contains-append_left es (e ∷ []) old.0 old.1, omega (arith, old.2, rank_of f kept, rank_later y.pass w.pass old.0.number more (at.over.stands old.0 old.1).begun)))
        ((at.goes_on.1 e v.stands).1 f (earlier f kept))

    goes_on : (m : ℕ) → LinkHolds z.settings (search_at nobody from (AtNext t)) m w.pass → SkipsNone w.pass from (rank_at w.pass e.number) m → Descends z.pass (search_at nobody from (AtNext t)) t m w.pass
        → GoesOnAt w.pass from x.settings.slots (es ++ e ∷ []) m
    goes_on zero holds skips falls = λ f kept. ⊎_elim (λ (lt : rank_at w.pass f.number < rank_at w.pass e.number). absurd (skips f kept lt)) (λ there. there) (cases f kept)
    goes_on (suc u) holds skips falls = (
      subst (λ (slots : ℕ). (u < slots) × (u < MOST_SLOTS)) (ap (λ (i : CpuView). i.settings.slots) v.is ∙ ap (λ (i : CpuView). i.settings.slots) at.is) holds,
      λ g stands. (
        λ f there.
            let below : rank_at w.pass g.number < rank_at w.pass e.number = falls e g stands_z stands in
            ⊎_elim
            (λ (old : Contains es f). omega (arith, below, rank_of_e, (at.goes_on.1 e v.stands).0 f old, rank_later y.pass w.pass f.number more (at.over.stands f old).begun))
            (λ (is : e ≡ f). omega (arith, below, ap (λ (d : Entry). rank_at w.pass d.number) is))
            (Contains-push_cases es e f there),
        λ f kept. ⊎_elim (λ (lt : rank_at w.pass f.number < rank_at w.pass e.number). inl (skips g f stands kept lt)) inr (cases f kept),
      ),
    )

-- a link that isn't 0 leads to a slot
pub on_slot : (x y : CpuView) (es : List Entry) (m : ℕ) → m ≢ 0 → IsGoingOver x es m y → IsGoingOver x es (suc (m - 1)) y
on_slot x y es zero some at = absurd (some refl)
on_slot x y es (suc t) some at = let same : suc t ≡ suc (suc t - 1) = omega arith in subst (λ m. IsGoingOver x es m y) same at

pub slot_within : (x y : CpuView) (es : List Entry) (t : ℕ) → IsGoingOver x es (suc t) y → (t < MOST_SLOTS) × (t < x.settings.slots)
slot_within x y es t at = (at.goes_on.0.1, at.goes_on.0.0)

pub may_go_by : (x y : CpuView) (es : List Entry) (t : ℕ) → IsGoingOver x es (suc t) y → MayGoBy y t
may_go_by x y es t at = record { from = length x.pass; under_way = going_on x y es t at; tells = tells_on x y es t at }

pub may_go_on : (x y z : CpuView) (es : List Entry) (t : ℕ) (e : Entry) → IsGoingOver x es (suc t) y → HasGoneByOne y t e z → MayLoadLink z t
may_go_on x y z es t e at had = may_follow z nobody (length x.pass) t (ap (λ (v : CpuView). v.search) (gone_by_there x y z es t e at had).is)

-- What is written of them

pub none_written : {P : Type 0} (written : Entry → P) (row : List P) → IsWritten written [] row row
none_written written row = record { first = sym (take_all (length row) [] (omega arith)); rest = refl }

pub one_more_written : {P : Type 0} (written : Entry → P) (es : List Entry) (e : Entry) (first old : List P) → length old ≡ length first → IsWritten written es first old
    → IsWritten written (es ++ e ∷ []) first (set old (length es) (written e))
one_more_written {P} written es e first old size had =
    let k = length es in
    let n = length first in
    let more : length (es ++ e ∷ []) ≡ k + 1 = length-append es (e ∷ []) in
    let grown : map written (es ++ e ∷ []) ≡ map written es ++ written e ∷ [] = map-append written es (e ∷ []) in
    let sized : length (map written es) ≡ k = length-map es written in
    let rest : drop (k + 1) old ≡ drop (length (es ++ e ∷ [])) first =
    sym (drop-drop 1 k old) ∙ ap (drop 1) had.rest ∙ drop-drop 1 k first ∙ sym (ap (λ (m : ℕ). drop m first) more) in
    ⊎_elim
    (λ (lt : k < n). record {
      first = ap (λ (m : ℕ). take m (set old k (written e))) more ∙ take_more_set old k (written e) (omega (arith, lt, size))
          ∙ ap (λ (row : List P). row ++ written e ∷ []) (had.first ∙ take_all n (map written es) (omega (arith, sized, lt)))
          ∙ sym (take_all n (map written (es ++ e ∷ [])) (omega (arith, length-map (es ++ e ∷ []) written, more, lt)) ∙ grown);
      rest = ap (λ (m : ℕ). drop m (set old k (written e))) more ∙ drop-set-lt (k + 1) old k (written e) (omega arith) ∙ rest;
    })
    (λ (le : n ≤ k). subst (IsWritten written (es ++ e ∷ []) first) (sym (set_past old k (written e) (omega (arith, le, size)))) (record {
      first = take_all (length (es ++ e ∷ [])) old (omega (arith, more, le, size)) ∙ sym (take_all k old (omega (arith, le, size))) ∙ had.first
          ∙ sym (take-append-le n (map written es) (written e ∷ []) (omega (arith, sized, le))) ∙ ap (take n) (sym grown);
      rest = ap (λ (m : ℕ). drop m old) more ∙ rest;
    }))
    (cases_lt k n)

-- as they are, into a row that has room
pub all_written : (es old new : List Entry) → length es ≤ length old → IsWritten (λ (e : Entry). e) es old new → take (length es) new ≡ es
all_written es old new room had = had.first ∙ ap (take (length old)) (map-id es) ∙ take_all (length old) es room

-- it is the same CPU's view
pub going_id : (x y : CpuView) (es : List Entry) (m : ℕ) → IsGoingOver x es m y → y.id ≡ x.id
going_id x y es zero at = ap (λ (v : CpuView). v.id) at.is
going_id x y es (suc t) at = ap (λ (v : CpuView). v.id) at.is

-- The whole walk

pub gone_over : (x y : CpuView) (es : List Entry) → IsGoingOver x es 0 y → HasGoneOver x y es
gone_over x y es at =
    let from = length x.pass in
    let low = prefix_length x.pass y.pass at.pass in
    record {
      pass = at.pass;
      is = at.is;
      since = at.tells.since;
      all = λ e live.
          let there : HasPlaceOf y.pass es e = at.goes_on e (record { live = live.0; now = e; stays = live.1; rank = refl }) in
          let one : there.0 ≡ e = one_stood y.pass from there.0.slot there.0 e at.tells.legal low (at.over.stands there.0 there.1) live.0 live.1 there.2 in
          subst (Contains es) one there.1;
      places = at.goes_on;
      each = λ e there. stood_was_live y.pass from e.slot e at.tells.legal low (at.over.stands e there);
      newest_first = at.over.newest_first;
    }

-- to a contract
pub walked : (a b : OnCpu) (row : List Entry) → a.view.search ≡ None → HasGoneOver a.view b.view row → b.depth ≡ a.depth → b.made ≡ a.made → b.memory ≡ a.memory → b.known_log ≡ a.known_log
    → HasGoneOverBy a.view.id a.view.settings.slots (length row) a.log b.log → HasWalked a b row
walked a b row idle had depth made memory known_log log = record {
  pass = had.pass;
  is = λ i. record {
    view = (had.is ∙ ap (λ (s : Option Search). record a.view { pass = b.view.pass; search = s; found = None }) (sym idle)) i;
    depth = depth i;
    made = made i;
    memory = memory i;
    known_log = known_log i;
    log = b.log;
  };
  all = had.all;
  places = had.places;
  each = had.each;
  held = λ e s there begun.
      let was = had.each e there in
      record { attached = was.live.attached; unended = λ p ends. omega (arith, had.since s begun, was.from_on, was.live.unended p ends) };
  newest_first = had.newest_first;
  log = log;
}

-- what its calls have made is none of the walk's
pub walked_by : (x y : OnCpu) (made : ℕ) (row : List Entry) → HasWalked x y row → HasWalked (record x { made = made }) (record y { made = made }) row
walked_by x y made row had = assumption (ap (λ (v : OnCpu). record v { made = made }) had.is, had)
