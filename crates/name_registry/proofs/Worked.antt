-- Looks and collections for a retired entry: its place, what they ask of the keeper, what they leave, and what one that wasn't passed tells.
use Rattle.std.proofs.Common.{◌≡◌, ℕ, suc, ◌+◌, ◌<◌, ◌≤◌, Bool, not, cond, List, [], ◌∷◌, length, map, take, Option, position, refl, sym, ap, ◌∙◌, arith, inr, zero, true, false, ◌++◌, append-nil, append_assoc, get_or, Some, None, subst, ◌%◌, ◌||◌, ◌==◌}
use Rattle.std.specs.List.{prefix_len, zip}
use Rattle.std.proofs.lemmas.List.{length-map}
use Rattle.std.proofs.lemmas.Bool.{or_left, or_parts, eqb-true, eqb-false}
use mathlib.Core.List.{IsPrefix}
use Rattle.atomic_table.specs.Seated.{TableId}
use Rattle.name_registry.specs.Types.{Settings, Key, Slot, KeeperView, LogItem, KeptSlot, Entry, Kind, Iface, Driver, Event, Collect, TotalAdd, Reply, Done, Word, Mark, Retired, Keeper, Look, PassiveLook, Stage, Grace, Passive, Local, Freed}
use Rattle.registry_values.specs.Common.{is_available, is_live_as, stage_of, Grows, mark_after_look, mark_after_passive_look, mark_after_collect, have_passed, are_clear, are_collected, bias, slot_at, is_retired_as, retired_slot, is_even, has_changed, is_retired}
use Rattle.registry_values.proofs.Fit.{ranges}
use Rattle.registry_values.proofs.Slots.{retired_slot_tells}
use Rattle.protocol.specs.Common.{kept_at, keeps_rightly, DriversKept, State, opening, mark_at, total_at, with_cell, at_rest}
use Rattle.protocol.proofs.Cells.{mark_grows, mark_there, marks_grow_none, marks_grow_more, passed_from, clear_from, collected_from, total_other, snapshot_stands}
use Rattle.cpu_words.specs.Common.{IsShown, did, Makes, has_looked, has_looked_passive, HasLookedPassive, HasLooked}
use Rattle.cpu_words.proofs.by_keeper.KeeperSteps.{seen_by_keeper}
use Rattle.cpu_words.proofs.shown.Seeing.{prefix_both}
use Rattle.passive_list.specs.Common.{OnKeeper, row_at, state_of, states_of, IsOurKeeper, OnPlainKeeper, on_keeper, IsDrainedOn, GoesOnBy}
use Rattle.passive_list.proofs.Marks.{marked}
use Rattle.passive_list.proofs.Rows.{retired_in, goes_on, no_more, one_more, keeper_is}
use Rattle.local_count.specs.Draining.{AreHeld, HasCollectedInto}
use Rattle.name_registry.specs.Common.{first_fit, is_live_row, is_available_row, MayWork, HasEnded, HasWorkedFor, HasLookedFor, PassedBelow, ClearBelow, CollectedBelow, Settles, IsLook, LooksBelow, LooksUnless, is_retired_row, HasLookedLast, EndsIn, SeesSection, SeesPassive, Meets, MeetsGrace, MeetsLocal, MeetsPassive}

-- Tests over the keeper's rows are tests over what a contract sees of the keeper.

prefix_map : {X Y : Type 0} (p : Y → Bool) (f : X → Y) (xs : List X) → prefix_len p (map f xs) ≡ prefix_len (λ x. p (f x)) xs
prefix_map p f [] = refl
prefix_map p f (x ∷ xs) = ap (λ n. cond (p (f x)) (1 + n) 0) (prefix_map p f xs)

pub position_map : {X Y : Type 0} (p : Y → Bool) (f : X → Y) (xs : List X) → position p (map f xs) ≡ position (λ x. p (f x)) xs
position_map p f xs = rw (prefix_map (λ y. not (p y)) f xs, length-map xs f) refl

-- the live entry of a kind and name

pub live_in_rows : (key : Key) (rows : List KeptSlot) → position (is_live_as key) (states_of rows) ≡ position (is_live_row key) rows
live_in_rows key rows = position_map (is_live_as key) state_of rows

-- the first-fit slot

abbrev pair_of : KeptSlot → Slot × Option ℕ
pair_of r = (r.state, r.keeps)

pairs : (rows : List KeptSlot) (keeps : List (Option ℕ)) → length keeps ≤ length rows → ((t : ℕ) → t < length keeps → (row_at rows t).keeps ≡ kept_at keeps t)
    → zip (states_of rows) keeps ≡ map pair_of (take (length keeps) rows)
pairs [] [] le each = refl
pairs [] (x ∷ keeps) le each = absurd (omega (arith, le))
pairs (r ∷ rows) [] le each = refl
pairs (r ∷ rows) (x ∷ keeps) le each =
    rw (pairs rows keeps (omega (arith, le)) (λ t lt. each (suc t) (omega (arith, lt))), each 0 (omega arith)) refl

pub first_fit_in_rows : {log : List LogItem} (a : Settings) (k : KeeperView) (rows : List KeptSlot) (n : ℕ) (x : OnKeeper) → IsOurKeeper a k rows n
    → record { view = k; slots = states_of rows; log = log } ≡ x → position is_available_row (take a.slots rows) ≡ first_fit x
first_fit_in_rows a k rows n x our is =
    let size : length k.keeps ≡ a.slots = our.view.sized.keeps in
    let most = (ranges a our.view.fit).slots in
    ap (λ m. position is_available_row (take m rows)) (sym size)
    ∙ (sym (position_map is_available pair_of (take (length k.keeps) rows))
    ∙ (ap (position is_available) (sym (pairs rows k.keeps (omega (arith, size, most, our.rows.size)) (λ t lt. (our.rows.each t (omega (arith, size, lt))).keeps)))
    ∙ ap first_fit is))

-- What looks and collections for a retired entry ask of the keeper, and what they leave.

-- Where there is work

iface_if : (kept : Option ℕ) (kind : Kind) (d : ℕ) → keeps_rightly kept kind ≡ true → kept ≡ Some d → kind ≡ Iface
iface_if None kind d rightly is = absurd (let q : ◌≡◌ {A = Option ℕ} None (Some d) = is in cc)
iface_if (Some n) Iface d rightly is = refl
iface_if (Some n) Driver d rightly is = absurd (let q : ◌≡◌ {A = Bool} false true = rightly in cc)

-- an entry whose slot keeps a reference is an interface
keeps_iface : (k : KeeperView) (t d : ℕ) (e : Entry) → IsShown k → slot_at k.slots t ≡ Retired e → kept_at k.keeps t ≡ Some d → e.rec.kind ≡ Iface
keeps_iface k t d e is_shown is kept =
    let seen = seen_by_keeper is_shown.g k is_shown.good is_shown.shown in
    let keeps : DriversKept k.slots k.keeps =
    subst (λ (x : List Slot). DriversKept x k.keeps) (sym seen.slots) (subst (DriversKept is_shown.g.slots) (sym seen.keeps) is_shown.good.holds.kept_drivers) in
    iface_if (kept_at k.keeps t) e.rec.kind d (keeps.rightly t e (inr is)) kept

-- a keeper has work at each slot that it has as retired
pub may_work : {table : TableId} {log : List LogItem} (a : Settings) (k : KeeperView) (rows : List KeptSlot) (n : ℕ) (x : OnPlainKeeper) (t : ℕ) (e : Entry) → IsOurKeeper a k rows n
    → on_keeper table a k rows log ≡ x
    → slot_at x.keeper.slots t ≡ Retired e → MayWork x.words.settings x.keeper t
may_work a k rows n x t e our is retired =
    let there : slot_at (states_of rows) t ≡ Retired e = ap (λ (y : OnPlainKeeper). slot_at y.keeper.slots t) is ∙ retired in
    let known = retired_in a k rows t e our.rows there in
    subst (λ (y : OnPlainKeeper). MayWork y.words.settings y.keeper t) is
    (search (our.view.settings, our.view.rest, known.0, there, known.1, λ (d : ℕ). keeps_iface k t d e our.is_shown known.1))

-- there still is after some
pub still_works : (z : Settings) (a b : OnKeeper) (t : ℕ) → MayWork z a t → HasWorkedFor a t b → MayWork z b t
still_works z a b t may worked =
    subst (λ (p : KeeperView × List Slot). MayWork z (record b { view = p.0; slots = p.1 }) t) (λ i. (sym worked.only i, sym worked.slots i))
    (search (may.settings, may.rest, may.slot, may.retired, may.known, may.keeps))

-- One turn after the other

pub worked_none : (a : OnKeeper) (t : ℕ) → HasWorkedFor a t a
worked_none a t = record { only = refl; marks = marks_grow_none a.view.marks t; totals = λ u off. refl; looks = omega arith; slots = refl; log = ([], append-nil a.log) }

pub worked_more : (a b d : OnKeeper) (t : ℕ) → HasWorkedFor a t b → HasWorkedFor b t d → HasWorkedFor a t d
worked_more a b d t x y = record {
  only = subst (λ (k : KeeperView). d.view ≡ record k { marks = d.view.marks; totals = d.view.totals; looks = d.view.looks; last_look = d.view.last_look }) x.only y.only;
  marks = marks_grow_more a.view.marks b.view.marks d.view.marks t x.marks y.marks;
  totals = λ u off. y.totals u off ∙ x.totals u off;
  looks = let first = x.looks in let then = y.looks in omega (arith, first, then);
  slots = y.slots ∙ x.slots;
  log = prefix_both _ _ _ x.log y.log;
}

pub looked_none : (a : OnKeeper) (t : ℕ) → HasLookedFor a t a
looked_none a t = record { worked = worked_none a t; totals = refl }

pub looked_more : (a b d : OnKeeper) (t : ℕ) → HasLookedFor a t b → HasLookedFor b t d → HasLookedFor a t d
looked_more a b d t x y = record { worked = worked_more a b d t x.worked y.worked; totals = y.totals ∙ x.totals }

-- One step

pub looked_grows : (m : Mark) (w : ℕ) → Grows m (mark_after_look m w)
looked_grows m w = record { snapshot = refl; passed = λ p. or_left m.passed _ p; clear = λ p. p; collected = λ p. p }

pub cleared_grows : (m : Mark) (w : ℕ) → Grows m (mark_after_passive_look m w)
cleared_grows m w = record { snapshot = refl; passed = λ p. p; clear = λ p. or_left m.clear _ p; collected = λ p. p }

-- a look makes m of the mark of c
pub look_leaves : (a b : OnKeeper) (ev : Event) (r : Reply) (t c : ℕ) (m : Mark) → Grows (mark_at a.view.marks t c) m → b.view ≡ marked a.view ev r t c m → b.slots ≡ a.slots → IsPrefix a.log b.log
    → HasLookedFor a t b
look_leaves a b ev r t c m grows view slots log = subst (λ (l : KeeperView). HasLookedFor a t (record b { view = l })) (sym view) record {
  worked = record { only = refl; marks = mark_grows a.view.marks t c m grows; totals = λ u off. refl; looks = omega arith; slots = slots; log = log };
  totals = refl;
}

pub collection_leaves : (a b : OnKeeper) (t c : ℕ) → HasCollectedInto a t c b → HasWorkedFor a t b
collection_leaves a b t c has = subst (λ (l : KeeperView). HasWorkedFor a t (record b { view = l })) (sym has.view) record {
  only = refl;
  marks = mark_grows a.view.marks t c _ (record { snapshot = refl; passed = λ p. p; clear = λ p. p; collected = λ p. refl });
  totals = λ u off. total_other a.view.totals t _ u off;
  looks = omega arith;
  slots = has.slots;
  log = (did (Collect t c) (Word has.word) ++ did (TotalAdd t) Done, sym (append_assoc a.log (did (Collect t c) (Word has.word)) (did (TotalAdd t) Done)) ∙ sym has.log);
}

-- the mark that a step writes is there
pub mark_put : (ev : Event) (r : Reply) (z : Settings) (a : OnKeeper) (l : KeeperView) (t c : ℕ) (m : Mark) → MayWork z a t → c < z.cpus → Makes ev r (Keeper a.view) (Keeper l)
    → mark_at (with_cell a.view.marks t c m) t c ≡ m
mark_put ev r z a l t c m may cpu made =
    let seen = seen_by_keeper made.g a.view made.good made.before in
    let same : z ≡ made.g.settings = sym may.settings ∙ seen.settings in
    subst (λ (ms : List (List Mark)). mark_at (with_cell ms t c m) t c ≡ m) (sym seen.marks)
    (mark_there made.g t c m made.good.holds (subst (λ (s : Settings). t < s.slots) same may.slot) (subst (λ (s : Settings). c < s.cpus) same cpu))

pub collection_marks : (z : Settings) (a b : OnKeeper) (t c : ℕ) → MayWork z a t → c < z.cpus → HasCollectedInto a t c b → (mark_at b.view.marks t c).collected ≡ true
collection_marks z a b t c may cpu has =
    ap (λ (l : KeeperView). (mark_at l.marks t c).collected) has.view ∙ ap (λ (m : Mark). m.collected) (mark_put _ _ z a _ t c (mark_after_collect (mark_at a.view.marks t c)) may cpu has.collected)

-- What is so of all CPUs

-- the core tests of all marks are passed: a state with these settings and marks says so
abbrev marks_in : Settings → KeeperView → State
marks_in z k = record (opening z) { marks = k.marks }

pub all_passed : {z a : Settings} (k : KeeperView) (t : ℕ) → z ≡ a → PassedBelow k t z.cpus → have_passed a.cpus (get_or k.marks t []) ≡ true
all_passed {z} k t same each = subst (λ (s : Settings). have_passed s.cpus (get_or k.marks t []) ≡ true) same (passed_from (marks_in z k) t each)

pub all_clear : {z a : Settings} (k : KeeperView) (t : ℕ) → z ≡ a → ClearBelow k t z.cpus → are_clear a.cpus (get_or k.marks t []) ≡ true
all_clear {z} k t same each = subst (λ (s : Settings). are_clear s.cpus (get_or k.marks t []) ≡ true) same (clear_from (marks_in z k) t each)

pub all_collected : {z a : Settings} (k : KeeperView) (t : ℕ) → z ≡ a → CollectedBelow k t z.cpus → are_collected a.cpus (get_or k.marks t []) ≡ true
all_collected {z} k t same each = subst (λ (s : Settings). are_collected s.cpus (get_or k.marks t []) ≡ true) same (collected_from (marks_in z k) t each)

-- and stay so
pub still_passed : (a b : OnKeeper) (t n : ℕ) → HasWorkedFor a t b → PassedBelow a.view t n → PassedBelow b.view t n
still_passed a b t n worked each c lt = (worked.marks.here c).passed (each c lt)

pub still_clear : (a b : OnKeeper) (t n : ℕ) → HasWorkedFor a t b → ClearBelow a.view t n → ClearBelow b.view t n
still_clear a b t n worked each c lt = (worked.marks.here c).clear (each c lt)

pub still_collected : (a b : OnKeeper) (t n : ℕ) → HasWorkedFor a t b → CollectedBelow a.view t n → CollectedBelow b.view t n
still_collected a b t n worked each c lt = (worked.marks.here c).collected (each c lt)

-- a slot with all marks is drained once nothing is held
pub is_drained : (z : Settings) (x : OnKeeper) (t held : ℕ) → MayWork z x t → PassedBelow x.view t z.cpus → ClearBelow x.view t z.cpus → CollectedBelow x.view t z.cpus
    → held + bias ≡ total_at x.view.totals t → held ≡ 0 → IsDrainedOn x t
is_drained z x t held may passed clear mark_after_collect total none =
    record {
      retired = (may.e, may.retired);
      drained = record {
        rest = may.rest;
        retired = (may.e, may.known);
        passed = all_passed x.view t (sym may.settings) passed;
        clear = all_clear x.view t (sym may.settings) clear;
        collected = all_collected x.view t (sym may.settings) mark_after_collect;
        total = omega (arith, total, none);
      };
    }

-- where so many local references are held the work ends there, and nothing changes
pub settled_held : (m b : OnKeeper) (t held : ℕ) → (held ≡ 0 → ⊥) → AreHeld m.view t held → held + bias ≡ total_at m.view.totals t → b ≡ m → Settles m t (stage_of t None None held) b
settled_held m b t zero some are total same = absurd (some refl)
settled_held m b t (suc k) some are total same = (some, are, total, same)

-- where none is the drained slot comes to its end
pub settled_free : (m b : OnKeeper) (t held : ℕ) → held ≡ 0 → IsDrainedOn m t → HasEnded m t b → Settles m t (stage_of t None None held) b
settled_free m b t held none drained ended = subst (λ (k : ℕ). Settles m t (stage_of t None None k) b) (sym none) (refl, drained, ended)

-- Looks for a retired entry, CPU by CPU, are in the keeper's log.

pub look_goes_on : (passed : Bool) (a : OnKeeper) (t c : ℕ) (b : OnKeeper) → LooksUnless passed a t c b → GoesOnBy (IsLook t) a.log b.log
look_goes_on true a t c b is = no_more (IsLook t) a.log b.log (ap (λ (x : OnKeeper). x.log) is)
look_goes_on false a t c b is = one_more (IsLook t) (has_looked t c is.0) a.log b.log (c, is.0, refl) is.1.log

pub looks_go_on : (n : ℕ) (a : OnKeeper) (t : ℕ) (b : OnKeeper) → LooksBelow n a t b → GoesOnBy (IsLook t) a.log b.log
looks_go_on zero a t b is = no_more (IsLook t) a.log b.log (ap (λ (x : OnKeeper). x.log) is)
looks_go_on (suc n) a t b is = goes_on (IsLook t) a.log is.0.log b.log (looks_go_on n a t is.0 is.1) (look_goes_on (mark_at is.0.view.marks t n).passed is.0 t n b is.2)

-- one CPU more
pub looks_more : (n : ℕ) (a : OnKeeper) (t : ℕ) (m b : OnKeeper) → LooksBelow n a t m → LooksUnless (mark_at m.view.marks t n).passed m t n b → LooksBelow (n + 1) a t b
looks_more n a t m b is once = subst (λ (j : ℕ). LooksBelow j a t b) (let e : suc n ≡ n + 1 = omega arith in e) (m, is, once)

-- The place of a retired entry, by the keeper's rows.

-- a search over the rows is one over what a contract sees of the keeper
pub retired_in_rows : {log : List LogItem} (n : ℕ) (rows : List KeptSlot) (k : KeeperView) (x : OnKeeper) → record { view = k; slots = states_of rows; log = log } ≡ x
    → position (is_retired_row n) rows ≡ retired_slot x.slots n
retired_in_rows n rows k x is = sym (position_map (is_retired_as n) state_of rows) ∙ ap (λ (y : OnKeeper). retired_slot y.slots n) is

-- the entry found is one to work on
pub place_works : {table : TableId} {log : List LogItem} (a : Settings) (k : KeeperView) (rows : List KeptSlot) (n : ℕ) (x : OnPlainKeeper) (number t : ℕ) → IsOurKeeper a k rows n
    → on_keeper table a k rows log ≡ x
    → position (is_retired_row number) rows ≡ Some t → MayWork x.words.settings x.keeper t
place_works a k rows n x number t our is found =
    let e = (retired_slot_tells x.keeper.slots number t (sym (retired_in_rows number rows k x.keeper (keeper_is is)) ∙ found)).1 in
    may_work a k rows n x t e.0 our is e.1

-- What a look tells that wasn't passed: the word that the keeper saw.

odd_if : (w : ℕ) → is_even w ≡ false → w % 2 ≡ 1
odd_if w is = let off = eqb-false (w % 2) 0 is in omega (arith, off)

unchanged : (s : Option ℕ) (x w : ℕ) → s ≡ Some x → has_changed s w ≡ false → s ≡ Some w
unchanged None x w some same = absurd (let q : ◌≡◌ {A = Option ℕ} None (Some x) = some in cc)
unchanged (Some y) x w some same = ap (λ (n : ℕ). Some n) (eqb-true y w (not_not (y == w) same))
  where
    not_not : (b : Bool) → not b ≡ false → b ≡ true
    not_not true is = refl
    not_not false is = absurd (let q : ◌≡◌ {A = Bool} true false = is in cc)

-- a mark that a look at the word w doesn't pass
looked_tells : (m : Mark) (x w : ℕ) → m.snapshot ≡ Some x → (mark_after_look m w).passed ≡ false → (w % 2 ≡ 1) × (m.snapshot ≡ Some w)
looked_tells m x w some unset =
    let word = or_parts (is_even w) (has_changed m.snapshot w) (or_parts m.passed (is_even w || has_changed m.snapshot w) unset).1 in
    (odd_if w word.0, unchanged m.snapshot x w some word.1)

-- the snapshot of a retired entry stands
snapshot_at : (z : Settings) (a : OnKeeper) (l : KeeperView) (t c w : ℕ) → MayWork z a t → c < z.cpus → Makes (Look (Some t) c) (Word w) (Keeper a.view) (Keeper l)
    → (x : ℕ) × ((mark_at a.view.marks t c).snapshot ≡ Some x)
snapshot_at z a l t c w may cpu made =
    let seen = seen_by_keeper made.g a.view made.good made.before in
    let gone : is_retired (slot_at made.g.slots t) ≡ true = ap is_retired (ap (λ (xs : List Slot). slot_at xs t) (sym seen.slots) ∙ may.known) in
    let x = snapshot_stands made.g t c made.good.holds (ap at_rest (sym seen.due ∙ may.rest)) gone (subst (λ (s : Settings). c < s.cpus) (sym may.settings ∙ seen.settings) cpu) in
    (x.0, ap (λ (ms : List (List Mark)). (mark_at ms t c).snapshot) seen.marks ∙ x.1)

pub sees_section : (z : Settings) (a b : OnKeeper) (t c w : ℕ) → MayWork z a t → c < z.cpus → HasLooked a.view (Look (Some t) c) (Word w) t c w b.view
    → Makes (Look (Some t) c) (Word w) (Keeper a.view) (Keeper b.view)
    → b.log ≡ a.log ++ did (Look (Some t) c) (Word w) → (mark_at b.view.marks t c).passed ≡ false → SeesSection a t c b
sees_section z a b t c w may cpu change made log unset =
    let m = mark_at a.view.marks t c in
    let there : mark_at b.view.marks t c ≡ mark_after_look m w = ap (λ (l : KeeperView). mark_at l.marks t c) change ∙ mark_put _ _ z a b.view t c (mark_after_look m w) may cpu made in
    let x = snapshot_at z a b.view t c w may cpu made in
    let tells = looked_tells m x.0 w x.1 (sym (ap (λ (n : Mark). n.passed) there) ∙ unset) in
    record {
      word = w;
      look = record { more = let looks = ap (λ (l : KeeperView). l.looks) change in omega (arith, looks); last = ap (λ (l : KeeperView). l.last_look) change };
      log = ([], log ∙ ap (λ (ds : List LogItem). ds ++ did (Look (Some t) c) (Word w)) (sym (append-nil a.log)));
      odd = tells.0;
      snapshot = ap (λ (n : Mark). n.snapshot) there ∙ tells.1;
      unpassed = unset;
    }

pub sees_passive : (z : Settings) (a b : OnKeeper) (t c w : ℕ) → MayWork z a t → c < z.cpus → HasLookedPassive a.view t c w b.view → Makes (PassiveLook t c) (Word w) (Keeper a.view) (Keeper b.view)
    → b.log ≡ a.log ++ did (PassiveLook t c) (Word w) → (mark_at b.view.marks t c).clear ≡ false → SeesPassive a t c b
sees_passive z a b t c w may cpu change made log unset =
    let m = mark_at a.view.marks t c in
    let there : mark_at b.view.marks t c ≡ mark_after_passive_look m w = ap (λ (l : KeeperView). mark_at l.marks t c) change ∙ mark_put _ _ z a b.view t c (mark_after_passive_look m w) may cpu made in
    record {
      word = w;
      look = record { more = let looks = ap (λ (l : KeeperView). l.looks) change in omega (arith, looks); last = ap (λ (l : KeeperView). l.last_look) change };
      log = ([], log ∙ ap (λ (ds : List LogItem). ds ++ did (PassiveLook t c) (Word w)) (sym (append-nil a.log)));
      some = eqb-false w 0 (or_parts m.clear (w == 0) (sym (ap (λ (n : Mark). n.clear) there) ∙ unset)).1;
      unclear = unset;
    }

-- what was seen since b was seen since a, which was before

looked_since : (a b d : OnKeeper) (t w : ℕ) (ev : Event) → HasWorkedFor a t b → HasLookedLast b.view d.view ev w → HasLookedLast a.view d.view ev w
looked_since a b d t w ev worked last = record { more = let first = worked.looks in let then = last.more in omega (arith, first, then); last = last.last }

ends_since : (old log new : List LogItem) (d : LogItem) → IsPrefix old log → EndsIn log d new → EndsIn old d new
ends_since old log new d on ends = (
  on.0 ++ ends.0,
  ends.1 ∙ ap (λ (ds : List LogItem). ds ++ ends.0 ++ d ∷ []) (sym on.1) ∙ ap (λ (ds : List LogItem). ds ++ d ∷ []) (append_assoc old on.0 ends.0),
)

section_since : (a b d : OnKeeper) (t c : ℕ) → HasWorkedFor a t b → SeesSection b t c d → SeesSection a t c d
section_since a b d t c worked sees =
    search (looked_since a b d t sees.word _ worked sees.look, ends_since a.log b.log d.log (has_looked t c sees.word) worked.log sees.log, sees.odd, sees.snapshot, sees.unpassed)

passive_since : (a b d : OnKeeper) (t c : ℕ) → HasWorkedFor a t b → SeesPassive b t c d → SeesPassive a t c d
passive_since a b d t c worked sees =
    search (looked_since a b d t sees.word _ worked sees.look, ends_since a.log b.log d.log (has_looked_passive t c sees.word) worked.log sees.log, sees.some, sees.unclear)

-- The first CPU of all that a look stops at

pub grace_met : (z : Settings) (a b d : OnKeeper) (t c : ℕ) → MayWork z a t → c < z.cpus → HasLookedFor a t b → PassedBelow b.view t c → HasLookedFor b t d → SeesSection b t c d → MeetsGrace a t c d
grace_met z a b d t c may cpu before passed looked_ sees =
    assumption (subst (λ (s : Settings). c < s.cpus) (sym may.settings) cpu, section_since a b d t c before.worked sees, still_passed b d t c looked_.worked passed, looked_more a b d t before looked_)

pub passive_met : (z : Settings) (a b d : OnKeeper) (t c : ℕ) → MayWork z a t → c < z.cpus → PassedBelow a.view t z.cpus → HasLookedFor a t b → ClearBelow b.view t c → HasLookedFor b t d
    → SeesPassive b t c d → MeetsPassive a t c d
passive_met z a b d t c may cpu passed before clear looked_ sees =
    let leaves = looked_more a b d t before looked_ in
    let settings : d.view.settings ≡ z = ap (λ (k : KeeperView). k.settings) leaves.worked.only ∙ may.settings in
    record {
      cpu = subst (λ (s : Settings). c < s.cpus) (sym may.settings) cpu;
      sees = passive_since a b d t c before.worked sees;
      passed = subst (λ (s : Settings). PassedBelow d.view t s.cpus) (sym settings) (still_passed a d t z.cpus leaves.worked passed);
      lesser = still_clear b d t c looked_.worked clear;
      leaves = leaves;
    }

-- looks for sections before it change nothing of that
pub passive_after : (a b d : OnKeeper) (t c : ℕ) → HasLookedFor a t b → MeetsPassive b t c d → MeetsPassive a t c d
passive_after a b d t c before meets =
    assumption (subst (λ (k : KeeperView). c < k.settings.cpus) before.worked.only meets.cpu, passive_since a b d t c before.worked meets.sees, looked_more a b d t before meets.leaves)

-- The end of the work, at a slot with all marks

pub settles_after : (z : Settings) (a m d : OnKeeper) (t : ℕ) (stage : Stage) → MayWork z a t → HasWorkedFor a t m → PassedBelow m.view t z.cpus → ClearBelow m.view t z.cpus
    → CollectedBelow m.view t z.cpus → Settles m t stage d → Meets a t stage d
settles_after z a m d t (Grace c) may worked passed clear collected ends = absurd ends
settles_after z a m d t (Passive c) may worked passed clear collected ends = absurd ends
settles_after z a m d t (Local n) may worked passed clear collected ends =
    let settings : m.view.settings ≡ z = ap (λ (k : KeeperView). k.settings) worked.only ∙ may.settings in
    let all = subst (λ (s : Settings). PassedBelow m.view t s.cpus × (ClearBelow m.view t s.cpus × CollectedBelow m.view t s.cpus)) (sym settings) (passed, (clear, collected)) in
    subst (λ (x : OnKeeper). MeetsLocal a t n x) (sym ends.3) (assumption all)
settles_after z a m d t (Freed u) may worked passed clear collected ends = (ends.0, record { between = m; leaves = worked; drained = ends.1; ended = ends.2 })
