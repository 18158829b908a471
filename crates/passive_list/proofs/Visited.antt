-- The entries that a lookup has visited: its search may be at each of them, so they are no more than there are slots.
use Rattle.std.proofs.Common.{◌≡◌, ⊎_elim, ℕ, ◌+◌, ◌≤◌, Bool, true, false, List, [], ◌∷◌, ◌++◌, length, Option, refl, ap, subst, arith, length-append}
use Rattle.std.proofs.lemmas.List.{append-nil}
use Rattle.std.proofs.lemmas.List.Elements.{Contains-push_cases}
use Rattle.std.specs.List.{Contains}
use mathlib.Core.List.{IsPrefix}
use Rattle.passive_list.specs.Types.{Entry, Change, Key, Found, Search, AtNext, CpuView}
use Rattle.protocol.specs.Common.{entry_with}
use Rattle.cpu_words.specs.Common.{HasLoadedLink, PassTells, loaded_of, loaded_answer}
use Rattle.passive_list.specs.Common.{search_at, HasVisited, IsOn, AreStoodOn}
use Rattle.passive_list.proofs.Walking.{on_way, prefix_length, rank_later}
use Rattle.passive_list.proofs.GoingOver.{few_stood_on, none_stood_on, stood_later, stood_on_more}
use Rattle.protocol.specs.History.{rank_at}

-- the search begun in the view x has visited so many entries, the newest first, as the pass p tells; the rank of `last` is above none of theirs
pub record HasGoneBy (x : CpuView) (visited last : ℕ) (p : List Change) : Type 0 where
  pub entries : List Entry
  pub size : length entries ≡ visited
  pub stood : AreStoodOn p (length x.pass) x.settings.slots entries
  pub over : (e : Entry) → Contains entries e → rank_at p last ≤ rank_at p e.number

pub gone_by_none : (x : CpuView) (last : ℕ) (p : List Change) → HasGoneBy x 0 last p
gone_by_none x last p = record { entries = []; size = refl; stood = none_stood_on p (length x.pass) x.settings.slots; over = λ e there. absurd (omega (arith, there.1)) }

-- one more was visited, and the pass may have grown since
one_more_gone_by : (key : Key) (x y z : CpuView) (t n last visited : ℕ) (b : Bool) (p : List Change) → IsOn key x t last y → HasVisited y key t n b z → IsPrefix y.pass p
    → HasGoneBy x visited last y.pass → HasGoneBy x (visited + 1) n p
one_more_gone_by key x y z t n last visited b p on had more so_far =
    let from = length x.pass in
    let v = had from (on_way key x y t last on) in
    let e = v.entry in
    let es = so_far.entries in
    let below = on.below e v.stands in
    let here : rank_at p e.number ≡ rank_at y.pass e.number = rank_later y.pass p e.number more v.stands.begun in
    let own : rank_at p e.number ≡ rank_at p n = ap (rank_at p) v.number in
    record {
      entries = es ++ e ∷ [];
      size = omega (arith, length-append es (e ∷ []), so_far.size);
      stood = stood_later y.pass p from x.settings.slots (es ++ e ∷ []) more (prefix_length x.pass y.pass on.pass)
          (stood_on_more y.pass from x.settings.slots t es e so_far.stood v.stands on.slot (λ f there. omega (arith, below, so_far.over f there)));
      over = λ f there. ⊎_elim
          (λ (old : Contains es f). omega (arith, below, own, here, so_far.over f old, rank_later y.pass p f.number more (so_far.stood.stands f old).begun))
          (λ (same : e ≡ f). omega (arith, own, ap (λ (g : Entry). rank_at p g.number) same))
          (Contains-push_cases es e f there);
    }

-- its link was loaded
pub gone_by_next : (key : Key) (x y z w : CpuView) (t n m last visited : ℕ) → IsOn key x t last y → HasVisited y key t n false z → HasLoadedLink z m w → HasGoneBy x visited last y.pass
    → HasGoneBy x (visited + 1) n w.pass
gone_by_next key x y z w t n m last visited on had loaded_link so_far =
    let v = had (length x.pass) (on_way key x y t last on) in
    let followed = loaded_link (search_at key (length x.pass) (AtNext t)) (ap (λ (u : CpuView). u.search) v.is) in
    one_more_gone_by key x y z t n last visited false w.pass on had (subst (λ (p : List Change). IsPrefix p w.pass) (ap (λ (u : CpuView). u.pass) v.is) followed.pass) so_far

-- At the end no more than the slots

pub few_gone_by : (x : CpuView) (visited last : ℕ) (p : List Change) → PassTells x.begin (length x.pass) p → HasGoneBy x visited last p → visited ≤ x.settings.slots
few_gone_by x visited last p tells so_far = omega (arith, (few_stood_on x.begin p (length x.pass) x.settings.slots so_far.entries tells so_far.stood).0, so_far.size)

pub few_found : (key : Key) (x y z : CpuView) (t n last visited : ℕ) → IsOn key x t last y → HasVisited y key t n true z → HasGoneBy x visited last y.pass → visited + 1 ≤ x.settings.slots
few_found key x y z t n last visited on had so_far =
    few_gone_by x (visited + 1) n y.pass on.tells (one_more_gone_by key x y z t n last visited true y.pass on had ([], append-nil y.pass) so_far)

-- what the load of the value replies
pub value_replied : (key : Key) (x y z : CpuView) (t n last value : ℕ) → IsOn key x t last y → HasVisited y key t n true z → loaded_answer (loaded_of z.search value) ≡ Found (entry_with key t n value)
value_replied key x y z t n last value on had =
    ap (λ (s : Option Search). loaded_answer (loaded_of s value)) (ap (λ (u : CpuView). u.search) (had (length x.pass) (on_way key x y t last on)).is)
