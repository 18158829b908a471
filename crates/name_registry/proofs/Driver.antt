-- A driver by its name, for whoever holds the keeper: what the CPU found is live now, as it had seen the whole history, and no more.
use Rattle.std.proofs.Common.{◌≡◌, ◌≢◌, ◌∙◌, ◌≤◌, inl, inr, ℕ, List, [], length, Bool, true, false, Option, Some, None, Result, Ok, Err, IfErr, refl, sym, ap, subst, arith}
use Rattle.std.specs.Prelude.{if◌then◌else◌, is_some}
use Rattle.std.proofs.lemmas.Bool.{false≢true}
use Rattle.std.specs.Result.{result_err}
use Rattle.std.proofs.lemmas.List.{append-nil}
use mathlib.Core.List.{IsPrefix}
use mathlib.Core.Logic.{dite}
use native.Mathlib.Decide.{ℕ_discrete}
use Rattle.registry_values.specs.declared.refusal.Refusal.TheVariants.{LocalFull, TooDeep}
use Rattle.registry_values.specs.Common.{Answers}
use Rattle.name_registry.specs.Types.{Change, CpuView, Entry, Inside, Key, Name, NotFound, ReferenceView, Refusal, SectionsSpent, Seen}
use Rattle.protocol.specs.Common.{IsLawful, IsLookup, entry_with}
use Rattle.cpu_words.proofs.shown.Seeing.{prefix_both}
use Rattle.local_count.specs.{AnswersAcquireLocal, HasAcquired, why_not_acquired_local}
use Rattle.passive_list.specs.Common.{FindsInside, HasEnteredOn, HasExitedOn, HasFoundKept, HasHeardOn, OnCpu, OnKeeper, cpu_after_tell, entry_seen}
use Rattle.passive_list.specs.Cpus.{why_not_entered}
use Rattle.passive_list.proofs.Walking.{prefix_length}
use Rattle.name_registry.specs.Common.{CountsInSection, FindsAndCounts, GetsLocal, IsLookupNow, IsOfDriver, NamesDriver, TakesDriver, as_needed, driver_key, is_inside, keeper_after_hear, keeper_after_tell}
use Rattle.name_registry.proofs.Gathered.{both_prefixes}

-- What a find in a section leaves

kept_found : (key : Key) (a b : OnCpu) (seen : Option Seen) → HasFoundKept key a b seen → b.view.found ≡ entry_seen key seen
kept_found key a b seen had = ap (λ (o : OnCpu). o.view.found) had.is ∙ ap (λ (o : OnCpu). o.view.found) had.finds.is

pub found_is : (key : Key) (a b : OnCpu) (seen : Option Seen) → FindsInside key a b seen → b.view.found ≡ entry_seen key seen
found_is key a b seen (None, at, had) = kept_found key a b seen had
found_is key a b seen (Some s, at, inl had) = ap (λ (o : OnCpu). o.view.found) had.1.is ∙ sym (ap (entry_seen key) had.0)
found_is key a b seen (Some s, at, inr had) = kept_found key had.0 b seen had.2

kept_begin : (key : Key) (a b : OnCpu) (seen : Option Seen) → HasFoundKept key a b seen → b.view.begin ≡ a.view.begin
kept_begin key a b seen had = ap (λ (o : OnCpu). o.view.begin) had.is ∙ ap (λ (o : OnCpu). o.view.begin) had.finds.is

pub begin_stays : (key : Key) (a b : OnCpu) (seen : Option Seen) → FindsInside key a b seen → b.view.begin ≡ a.view.begin
begin_stays key a b seen (None, at, had) = kept_begin key a b seen had
begin_stays key a b seen (Some s, at, inl had) = ap (λ (o : OnCpu). o.view.begin) had.1.is
begin_stays key a b seen (Some s, at, inr had) = kept_begin key had.0 b seen had.2 ∙ ap (λ (o : OnCpu). o.view.begin) had.1.is

-- and what an acquire after it does: the reference is to what was found
pub acquired_is : (key : Key) (a b : OnCpu) (s : Seen) (v : ReferenceView) → a.view.found ≡ entry_seen key (Some s) → HasAcquired a b v → entry_with key s.slot s.number s.value ≡ v.entry
acquired_is key a b s v found had = one (entry_with key s.slot s.number s.value) had.entry (sym found ∙ had.found) ∙ sym (ap (λ (r : ReferenceView). r.entry) had.is)
  where
    one : (e f : Entry) → ◌≡◌ {A = Option Entry} (Some e) (Some f) → e ≡ f
    one e f q = cc

-- Passes

-- by a find the pass grows
kept_grows : (key : Key) (a b : OnCpu) (seen : Option Seen) → HasFoundKept key a b seen → IsPrefix a.view.pass b.view.pass
kept_grows key a b seen had = subst (λ (o : OnCpu). IsPrefix a.view.pass o.view.pass) (sym had.is) had.finds.pass

pub find_grows : (key : Key) (a b : OnCpu) (seen : Option Seen) → FindsInside key a b seen → IsPrefix a.view.pass b.view.pass
find_grows key a b seen (None, at, had) = kept_grows key a b seen had
find_grows key a b seen (Some s, at, inl had) = had.1.pass
find_grows key a b seen (Some s, at, inr had) = prefix_both a.view.pass had.0.view.pass b.view.pass had.1.pass (kept_grows key had.0 b seen had.2)

-- a search that had seen the whole history at its begin, and at its end no more, tells what is live at the end
lawful_now : (p h : List Change) (key : Key) (answer : Option Entry) → length h ≤ length p → IsLawful h (length p) (length h) key answer → IsLookup h (length h) key answer
lawful_now p h key answer all is = subst (λ (n : ℕ). IsLookup h n key answer) (omega (arith, all, is.from_on, is.up_to)) is.answered

kept_now : (key : Key) (h : List Change) (a b : OnCpu) (seen : Option Seen) → IsPrefix h a.view.pass → b.view.pass ≡ h → HasFoundKept key a b seen → IsLookup h (length h) key (entry_seen key seen)
kept_now key h a b seen before after had =
    let end : had.left.view.pass ≡ h = sym (ap (λ (o : OnCpu). o.view.pass) had.is) ∙ after in
    lawful_now a.view.pass h key (entry_seen key seen) (prefix_length h a.view.pass before)
    (subst (λ (p : List Change). IsLawful p (length a.view.pass) (length p) key (entry_seen key seen)) end had.finds.lawful)

found_now : (key : Key) (h : List Change) (a b : OnCpu) (seen : Option Seen) → IsPrefix h a.view.pass → b.view.pass ≡ h → FindsInside key a b seen → IsLookup h (length h) key (entry_seen key seen)
found_now key h a b seen before after (None, at, had) = kept_now key h a b seen before after had
found_now key h a b seen before after (Some s, at, inl had) =
    subst (λ (o : Option Seen). IsLookup h (length h) key (entry_seen key o)) (sym had.0)
    (subst (λ (p : List Change). IsLookup p (length p) key (Some (entry_with key s.slot s.number s.value))) after had.1.answered)
found_now key h a b seen before after (Some s, at, inr had) = kept_now key h had.0 b seen (prefix_both h a.view.pass had.0.view.pass before had.1.pass) after had.2

-- The refusals of an enter and of an acquire aren't that nothing was found

abbrev entered_so : Bool → Bool → Result (Unit {0}) Refusal
entered_so deep spent = if deep then Err TooDeep else (if spent then Err SectionsSpent else Ok tt)

enter_refusal : (deep spent : Bool) → result_err (entered_so deep spent) ≡ Some NotFound → ⊥
enter_refusal true spent q = cc
enter_refusal false true q = cc
enter_refusal false false q = cc

uncounted : (b : Bool) → ◌≡◌ {A = Option Refusal} (if b then None else Some LocalFull) (Some NotFound) → ⊥
uncounted true q = cc
uncounted false q = cc

acquire_refusal : (x : CpuView) (o : Option Entry) → why_not_acquired_local x o ≡ Some NotFound → ⊥
acquire_refusal x None q = cc
acquire_refusal x (Some e) q = uncounted _ q

-- What a get by name tells

-- an enter and an exit keep the pass, or begin with a longer one
enter_grows : (a b : OnCpu) → HasEnteredOn a b → IsPrefix a.view.pass b.view.pass
enter_grows a b had = dite (ℕ_discrete a.depth 0)
    (λ (outside : a.depth ≡ 0). (had.begun outside).0)
    (λ (inside : a.depth ≢ 0). subst (λ (x : CpuView). IsPrefix a.view.pass x.pass) (sym (had.inner inside)) ([], append-nil a.view.pass))

exit_keeps : (a b : OnCpu) → HasExitedOn a b → b.view.pass ≡ a.view.pass
exit_keeps a b had = dite (ℕ_discrete a.depth 1)
    (λ (last : a.depth ≡ 1). ap (λ (x : CpuView). x.pass) (had.ended last))
    (λ (inner : a.depth ≢ 1). ap (λ (x : CpuView). x.pass) (had.inner inner))

-- so it had seen the whole history and no more, and its answer is of now
pub record IsNow (a : OnKeeper) (name : Name) (got : OnCpu) (r : Result ReferenceView Refusal) : Type 0 where
  pub whole : got.view.pass ≡ a.view.history
  pub driver : IsOfDriver a name r

-- what was found, and the CPU before and after, where it was in the history
record HasCounted (a : OnKeeper) (key : Key) (last : OnCpu) (r : Result ReferenceView Refusal) : Type 0 where
  middle : OnCpu
  pass : last.view.pass ≡ middle.view.pass
  none : r ≡ Err NotFound → (middle.view.pass ≡ a.view.history → IsLookup a.view.history (length a.view.history) key None)
  some : (v : ReferenceView) → r ≡ Ok v → (middle.view.pass ≡ a.view.history → IsLookup a.view.history (length a.view.history) key (Some v.entry))
  grows : IsPrefix a.view.history middle.view.pass

counted_none : (a : OnKeeper) (key : Key) (first last middle : OnCpu) (r : Result ReferenceView Refusal) (seen : Option Seen) → IsPrefix a.view.history first.view.pass
    → FindsInside key first middle seen → entry_seen key seen ≡ None → (r ≡ Err NotFound) × (last ≡ middle) → HasCounted a key last r
counted_none a key first last middle r seen before finds empty left = record {
  middle = middle;
  pass = ap (λ (o : OnCpu). o.view.pass) left.1;
  none = λ _ now. subst (IsLookup a.view.history (length a.view.history) key) empty (found_now key a.view.history first middle seen before now finds);
  some = λ v is. absurd (differ v (sym is ∙ left.0));
  grows = prefix_both a.view.history first.view.pass middle.view.pass before (find_grows key first middle seen finds);
}
  where
    differ : (v : ReferenceView) → ◌≡◌ {A = Result ReferenceView Refusal} (Ok v) (Err NotFound) → ⊥
    differ v q = cc

counted_some : (a : OnKeeper) (key : Key) (first last middle : OnCpu) (r : Result ReferenceView Refusal) (seen : Option Seen) → IsPrefix a.view.history first.view.pass
    → FindsInside key first middle seen → AnswersAcquireLocal middle last r (λ v. v) → HasCounted a key last r
counted_some a key first last middle (Ok v) seen before finds answers =
    let had = answers.answer.1 in
    let same : entry_seen key seen ≡ Some v.entry = sym (found_is key first middle seen finds) ∙ (had.found ∙ ap Some (sym (ap (λ (w : ReferenceView). w.entry) had.is))) in
    record {
      middle = middle;
      pass = ap (λ (o : OnCpu). o.view.pass) had.cpu;
      none = λ is. absurd (differ v is);
      some = λ w is now. subst (λ (u : ReferenceView). IsLookup a.view.history (length a.view.history) key (Some u.entry)) (one v w is)
          (subst (IsLookup a.view.history (length a.view.history) key) same (found_now key a.view.history first middle seen before now finds));
      grows = prefix_both a.view.history first.view.pass middle.view.pass before (find_grows key first middle seen finds);
    }
  where
    differ : (v : ReferenceView) → ◌≡◌ {A = Result ReferenceView Refusal} (Ok v) (Err NotFound) → ⊥
    differ v q = cc

    one : (v w : ReferenceView) → ◌≡◌ {A = Result ReferenceView Refusal} (Ok v) (Ok w) → v ≡ w
    one v w q = cc
counted_some a key first last middle (Err f) seen before finds answers = record {
  middle = middle;
  pass = ap (λ (o : OnCpu). o.view.pass) answers.refused;
  none = λ is. absurd (acquire_refusal middle.view middle.view.found (answers.answer ∙ ap Some (same f is)));
  some = λ v is. absurd (differ v is);
  grows = prefix_both a.view.history first.view.pass middle.view.pass before (find_grows key first middle seen finds);
}
  where
    differ : (v : ReferenceView) → ◌≡◌ {A = Result ReferenceView Refusal} (Err f) (Ok v) → ⊥
    differ v q = cc

    same : (f : Refusal) → ◌≡◌ {A = Result ReferenceView Refusal} (Err f) (Err NotFound) → f ≡ NotFound
    same f q = cc

counted : (a : OnKeeper) (key : Key) (first last : OnCpu) (r : Result ReferenceView Refusal) → IsPrefix a.view.history first.view.pass
    → FindsAndCounts key first last r → HasCounted a key last r
counted a key first last r before had = by had.found refl
  where
    differ : (s : Seen) → ◌≡◌ {A = Option Seen} (Some s) None → ⊥
    differ s q = cc

    by : (o : Option Seen) → had.found ≡ o → HasCounted a key last r
    by None none = counted_none a key first last had.middle r had.found before had.finds (ap (entry_seen key) none) (had.none none)
    by (Some s) some = counted_some a key first last had.middle r had.found before had.finds (had.some (λ none. differ s (sym some ∙ none)))

-- another refusal says nothing of it
refused_so : (a : OnKeeper) (name : Name) (f : Refusal) → (f ≡ NotFound → IsLookupNow a (driver_key name) None) → IsOfDriver a name (Err f)
refused_so a name NotFound none = none refl
refused_so a name _ none = tt

not_found : (a : OnKeeper) (name : Name) (f : Refusal) → (f ≡ NotFound → ⊥) → IsOfDriver a name (Err f)
not_found a name f off = refused_so a name f (λ is. absurd (off is))

-- the answer, by what the keeper heard at last
answered : (a : OnKeeper) (name : Name) (last got : OnCpu) (r : Result ReferenceView Refusal) → HasCounted a (driver_key name) last r → HasExitedOn last got → IsPrefix got.view.pass a.view.history
    → IsNow a name got r
answered a name last got r had exits seen =
    let same : got.view.pass ≡ had.middle.view.pass = exit_keeps last got exits ∙ had.pass in
    let whole : got.view.pass ≡ a.view.history = both_prefixes _ _ seen (subst (IsPrefix a.view.history) (sym same) had.grows) in
    let now : had.middle.view.pass ≡ a.view.history = sym same ∙ whole in
    record { whole = whole; driver = by r (λ is. had.none is now) (λ v is. had.some v is now) }
  where
    by : (o : Result ReferenceView Refusal) → (o ≡ Err NotFound → IsLookup a.view.history (length a.view.history) (driver_key name) None)
        → ((v : ReferenceView) → o ≡ Ok v → IsLookup a.view.history (length a.view.history) (driver_key name) (Some v.entry)) → IsOfDriver a name o
    by (Ok v) none some = some v refl
    by (Err f) none some = refused_so a name f (λ is. none (ap (λ (g : Refusal). Err g) is))

pub driver_now : (a : OnKeeper) (name : Name) (heard got : OnCpu) (r : Result ReferenceView Refusal) → IsPrefix a.view.history heard.view.pass
    → CountsInSection (driver_key name) heard got r → IsPrefix got.view.pass a.view.history → IsNow a name got r
driver_now a name heard got r told had seen = by had.entered refl
  where
    by : (e : Result (Unit {0}) Refusal) → had.entered ≡ e → IsNow a name got r
    by (Ok t) is =
        let inside = had.inside is in
        let enters = subst (λ (o : Result (Unit {0}) Refusal). Answers (why_not_entered heard) (λ _. HasEnteredOn heard had.first) o) is had.enters.answer in
        answered a name inside.0 got r (counted a (driver_key name) had.first inside.0 r (prefix_both _ _ _ told (enter_grows heard had.first enters.1)) inside.1) inside.2 seen
    by (Err f) is =
        let left = had.refused f is in
        let why = subst (λ (o : Result (Unit {0}) Refusal). Answers (why_not_entered heard) (λ _. HasEnteredOn heard had.first) o) is had.enters.answer in
        let stays = subst (λ (o : Result (Unit {0}) Refusal). IfErr o (λ _. had.first ≡ heard)) is had.enters.refused in
        record {
          whole = both_prefixes _ _ seen (subst (λ (o : OnCpu). IsPrefix a.view.history o.view.pass) (sym (left.1 ∙ stays)) told);
          driver = subst (IsOfDriver a name) (sym left.0) (not_found a name f (λ none. enter_refusal _ _ (why ∙ ap Some none)));
        }

outside_of : (o : Option ℕ) → is_some o ≡ false → o ≡ None
outside_of None is = refl
outside_of (Some n) is = absurd (false≢true (sym is))

pub takes_driver : (a m b : OnKeeper) (x heard got y : OnCpu) (name : Name) (r : Result ReferenceView Refusal) → is_inside x ≡ false → HasHeardOn a.view.history x heard → m ≡ keeper_after_tell a
    → GetsLocal (driver_key name) heard got r → IsPrefix got.view.pass b.view.history → b ≡ keeper_after_hear m got → y ≡ cpu_after_tell got → TakesDriver a x name b y r
takes_driver a m b x heard got y name r outside hears told gets seen heard_it tells =
    let begin : heard.view.begin ≡ None = ap (λ (o : OnCpu). o.view.begin) hears.is ∙ outside_of x.view.begin outside in
    let same : b.view.history ≡ a.view.history = ap (λ (k : OnKeeper). k.view.history) heard_it ∙ ap (λ (k : OnKeeper). k.view.history) told in
    let now = driver_now a name heard got r hears.told (gets.outside begin) (subst (λ (h : List Change). IsPrefix got.view.pass h) same seen) in
    record {
      heard = heard;
      hears = hears;
      got = got;
      gets = gets;
      whole = now.whole;
      driver = now.driver;
      keeper = heard_it ∙ ap (λ (k : OnKeeper). keeper_after_hear k got) told;
      cpu = tells;
    }

-- A change on a driver that is named

pub on_driver : {X : Type 0} (a : OnKeeper) (x : OnCpu) (name : Name) (b : OnKeeper) (y : OnCpu) (r : Result X Refusal) (P : OnKeeper → OnCpu → ReferenceView → Type 0) (k : OnKeeper) (c : OnCpu)
    (v : ReferenceView) → is_inside x ≡ false → TakesDriver a x name k c (Ok v) → P k c v → NamesDriver a x name b y r P
on_driver {X} a x name b y r P k c v outside takes had = record {
  inside = λ inside. absurd (false≢true (sym outside ∙ inside));
  outside = λ _. record { keeper = k; cpu = c; got = Ok v; takes = takes; refused = λ f is. absurd (differ f is); taken = λ w is. subst (P k c) (one w is) had };
}
  where
    differ : (f : Refusal) → ◌≡◌ {A = Result ReferenceView Refusal} (Ok v) (Err f) → ⊥
    differ f q = cc

    one : (w : ReferenceView) → ◌≡◌ {A = Result ReferenceView Refusal} (Ok v) (Ok w) → v ≡ w
    one w q = cc

pub no_driver : {X : Type 0} (a : OnKeeper) (x : OnCpu) (name : Name) (b : OnKeeper) (y : OnCpu) (r : Result X Refusal) (P : OnKeeper → OnCpu → ReferenceView → Type 0) (f : Refusal)
    → is_inside x ≡ false → TakesDriver a x name b y (Err f) → r ≡ Err (as_needed f) → NamesDriver a x name b y r P
no_driver {X} a x name b y r P f outside takes is = record {
  inside = λ inside. absurd (false≢true (sym outside ∙ inside));
  outside = λ _. record {
    keeper = b;
    cpu = y;
    got = Err f;
    takes = takes;
    refused = λ g same. (is ∙ ap (λ (i : Refusal). Err (as_needed i)) (one g same), refl, refl);
    taken = λ w is. absurd (differ w is);
  };
}
  where
    differ : (w : ReferenceView) → ◌≡◌ {A = Result ReferenceView Refusal} (Err f) (Ok w) → ⊥
    differ w q = cc

    one : (g : Refusal) → ◌≡◌ {A = Result ReferenceView Refusal} (Err f) (Err g) → f ≡ g
    one g q = cc

pub in_section : {X : Type 0} (a : OnKeeper) (x : OnCpu) (name : Name) (r : Result X Refusal) (P : OnKeeper → OnCpu → ReferenceView → Type 0) → is_inside x ≡ true → r ≡ Err Inside
    → NamesDriver a x name a x r P
in_section {X} a x name r P inside is = record { inside = λ _. (is, refl, refl); outside = λ outside. absurd (false≢true (sym outside ∙ inside)) }
