-- What a step needs of the table's own steps, by what its seat may do.
use Rattle.std.proofs.Common.{◌≡◌, ℕ, List, [], ◌++◌, false, Some, None, refl, sym, ap, ◌∙◌, subst, ◌<◌, arith}
use Rattle.std.specs.Prelude.{slice_index}
use mathlib.Core.Option.{none, some}
use lib.ListN.{get_elem?}
use Rattle.atomic_table.specs.Table.{State as Table, Me, Step, Allows, keeps}
use Rattle.cpu_words.specs.Types.{Settings, Hear, Done}
use Rattle.cpu_words.specs.Common.{CpuView, KeeperView, LogItem, Named, Seated, words_of, Logged, Keeper, Cpu, cpu_of, keeper_of, did, IsShownAfter, heard_from, CpuMay, KeeperMay, SeatMay, the_keeper, AreBy, LoggedRuled, IsTold, heard_by_cpu, heard_by_keeper, hears_note, HasNone, IsStanding, ListGoesOn, Moves, View, is_hear, who}
use Rattle.cpu_words.proofs.logs.Logs.{logged_moves, logged_hears, logged_heard}
use Rattle.cpu_words.proofs.logs.Known.{own_log, shown_after}

-- l once a step has changed its view, its log and its list
abbrev moved : Logged → View → List LogItem → List (ℕ × LogItem) → Logged
moved l view log list = record l { view = view; log = log; list = list }

-- what the table's own step needs, where the log and the list go on
allowed : (z : Settings) (l : Logged) (slots id i : ℕ) (f : ℕ → ℕ) (ds : ℕ → List LogItem) (tells : ℕ → View → Type 0) (then : Me ℕ Logged → ℕ → Me ℕ Logged → Type 0) → IsStanding l.view → l.ended ≡ false
    → ((n : ℕ) → AreBy (who l.view) (ds n)) → ((n : ℕ) → HasNone is_hear (ds n)) → Moves z l.view i f ds tells
    → ((s : Table ℕ Logged) (r : LoggedRuled z s) (n : ℕ) (w : View) (list : List (ℕ × LogItem)) → get_elem? s.views id ≡ some l → tells n w → ListGoesOn l.list (l.log ++ ds n) list
    → then (l, []) n (moved l w (l.log ++ ds n) list, []))
    → Allows (LoggedRuled z) slots id (l, []) i f (then (l, []))
allowed z l slots id i f ds tells then stands going own quiet moves told s r size at fits =
    let d = logged_moves z l i f ds tells stands going own quiet moves s r id at fits in
    let word = slice_index s.words i in
    (moved l d.0 (l.log ++ ds word) d.1, keeps, tt, d.2, told s r word d.0 d.1 at d.3 d.4)

abbrev any_step : Step ℕ
any_step = record { slots = 0; word = 0; first = 0; second = 0; said = none }

-- What the table's own step needs, by the words a and the seat s, which are seen as b and t. g n is the word that the step's tale is about, n being the word found; what the table's step tells, `then`,
-- follows from the tale
needed : {X : Type 0} (as_view : X → View) (of_view : View → X) (a b : Named) (s t : Seated X) (size slots id : ℕ) (y : Settings) (me : Me ℕ Logged) (i : ℕ) (f g : ℕ → ℕ)
    (does : X → ℕ → List LogItem) (tells : X → ℕ → X → Type 0) (then : ℕ → Me ℕ Logged → Type 0)
    → a ≡ b → (a.settings ≡ y) × (size ≡ words_of a.settings) × (slots ≡ 0) → s ≡ t → s.view ≡ of_view me.0.view → (me ≡ (record me.0 { view = as_view (of_view me.0.view) }, [])) × (me.0.ended ≡ false)
    → t.table ≡ b.table → i < words_of b.settings → IsStanding (as_view t.view) → ((n : ℕ) → AreBy (who (as_view t.view)) (does t.view (g n))) → ((n : ℕ) → HasNone is_hear (does t.view (g n)))
    → Moves b.settings (as_view t.view) i f (λ n. does t.view (g n)) (λ n w. (w ≡ as_view (of_view w)) × tells t.view (g n) (of_view w))
    → ((r : Table ℕ Logged) → LoggedRuled y r → get_elem? r.views id ≡ some me.0 → (n : ℕ) (l : Me ℕ Logged) → IsTold as_view of_view does tells any_step me (g n) l → then n l)
    → (s.table ≡ a.table) × (i < size) × Allows (LoggedRuled y) slots id me i f then
needed {X} as_view of_view a b s t size slots id y me i f g does tells then words inside seat view_is is table place stands own quiet may tells_then =
    let x = t.view in
    let same : b.settings ≡ y = sym (ap (λ (w : Named). w.settings) words) ∙ inside.0 in
    let view : x ≡ of_view me.0.view = sym (ap (λ (v : Seated X). v.view) seat) ∙ view_is in
    let empty : me.1 ≡ [] = ap (λ (m : Me ℕ Logged). m.1) is.0 in
    let seen : as_view x ≡ me.0.view = ap as_view view ∙ sym (ap (λ (m : Me ℕ Logged). m.0.view) is.0) in
    let by : (n : ℕ) → AreBy (who me.0.view) (does x (g n)) = subst (λ (v : View). (n : ℕ) → AreBy (who v) (does x (g n))) seen own in
    let moves : Moves y me.0.view i f (λ n. does x (g n)) (λ n w. (w ≡ as_view (of_view w)) × tells x (g n) (of_view w)) =
    subst (λ (p : Settings × View). Moves p.0 p.1 i f (λ n. does x (g n)) (λ n w. (w ≡ as_view (of_view w)) × tells x (g n) (of_view w))) (λ k. (same k, seen k)) may in
    let bare : me ≡ (me.0, []) = λ k. (me.0, empty k) in (
      ap (λ (v : Seated X). v.table) seat ∙ table ∙ sym (ap (λ (w : Named). w.table) words),
      (let size_is = inside.1 in let settings = ap (λ (w : Named). words_of w.settings) words in omega (arith, place, size_is, settings)),
      subst (λ (m : Me ℕ Logged). Allows (LoggedRuled y) slots id m i f then) (sym bare)
          (allowed y me.0 slots id i f (λ n. does x (g n)) (λ n w. (w ≡ as_view (of_view w)) × tells x (g n) (of_view w)) (λ _. then) (subst IsStanding seen stands) is.1 by quiet moves
          (λ r ruled n w list at told goes. tells_then r ruled at n (moved me.0 w (me.0.log ++ does x (g n)) list, []) (
            (λ k. (moved me.0 (told.0 k) (me.0.log ++ does x (g n)) list, sym empty k)),
            ap (λ (u : X). me.0.log ++ does u (g n)) view,
            subst (λ (u : X). tells u (g n) (of_view w)) view told.1,
            goes,
          ))),
    )

pub needs : {X : Type 0} (as_view : X → View) (of_view : View → X) (a b : Named) (s t : Seated X) (size slots id : ℕ) (y : Settings) (me : Me ℕ Logged) (i : ℕ) (f : ℕ → ℕ)
    (does : X → ℕ → List LogItem) (tells : X → ℕ → X → Type 0)
    → a ≡ b → (a.settings ≡ y) × (size ≡ words_of a.settings) × (slots ≡ 0) → s ≡ t → s.view ≡ of_view me.0.view → (me ≡ (record me.0 { view = as_view (of_view me.0.view) }, [])) × (me.0.ended ≡ false)
    → t.table ≡ b.table → i < words_of b.settings → IsStanding (as_view t.view) → ((n : ℕ) → AreBy (who (as_view t.view)) (does t.view n)) → ((n : ℕ) → HasNone is_hear (does t.view n))
    → SeatMay as_view of_view b.settings t.view i f (does t.view) tells
    → (s.table ≡ a.table) × (i < size) × Allows (LoggedRuled y) slots id me i f (IsTold as_view of_view does tells any_step me)
needs as_view of_view a b s t size slots id y me i f does tells words inside seat view_is is table place stands own quiet may =
    needed as_view of_view a b s t size slots id y me i f (λ n. n) does tells (IsTold as_view of_view does tells any_step me) words inside seat view_is is table place stands own quiet may (λ r ruled at n l told. told)

-- the same of the keeper's, which finds in its log what the note told
pub needs_hearing : (a b : Named) (s t : Seated KeeperView) (size slots id : ℕ) (y : Settings) (me : Me ℕ Logged) (i : ℕ) (f g : ℕ → ℕ) (does : KeeperView → ℕ → List LogItem)
    (tells : KeeperView → ℕ → KeeperView → Type 0)
    → a ≡ b → (a.settings ≡ y) × (size ≡ words_of a.settings) × (slots ≡ 0) → s ≡ t → s.view ≡ keeper_of me.0.view → (me ≡ (record me.0 { view = Keeper (keeper_of me.0.view) }, [])) × (me.0.ended ≡ false)
    → t.table ≡ b.table → i < words_of b.settings → ((n : ℕ) → AreBy the_keeper (does t.view (g n))) → ((n : ℕ) → HasNone is_hear (does t.view (g n)))
    → KeeperMay b.settings t.view i f (λ n. does t.view (g n)) (λ k n. tells k (g n))
    → (s.table ≡ a.table) × (i < size) × Allows (LoggedRuled y) slots id me i f (λ n. heard_by_keeper does tells any_step me (g n))
needs_hearing a b s t size slots id y me i f g does tells words inside seat view_is is table place own quiet may =
    needed Keeper keeper_of a b s t size slots id y me i f g does tells (λ n. heard_by_keeper does tells any_step me (g n)) words inside seat view_is is table place tt own quiet may
    (λ r ruled at n l told. (
      told,
      own_log y (keeper_of me.0.view) me.0 r ruled id
          (subst (λ (v : View). get_elem? r.views id ≡ some (record me.0 { view = v })) (ap (λ (m : Me ℕ Logged). m.0.view) is.0) at),
    ))

-- Loads that hear

pub allows_hearing : (z y : Settings) (x : CpuView) (slots id : ℕ) (me : Me ℕ Logged) (i : ℕ) (tells : CpuView → CpuView → Type 0) (st : Step ℕ)
    → z ≡ y → x ≡ cpu_of me.0.view → (me ≡ (record me.0 { view = Cpu (cpu_of me.0.view) }, [])) × (me.0.ended ≡ false) → CpuMay z x i (λ n. n) (λ n. did (Hear (Some x.id)) Done) (λ v n w. tells v w)
    → Allows (LoggedRuled y) slots id me i (λ n. n) (heard_by_cpu tells st me)
allows_hearing z y x slots id me i tells st same view is may =
    subst (λ (m : Me ℕ Logged). Allows (LoggedRuled y) slots id m i (λ n. n) (heard_by_cpu tells st m)) (sym is.0)
    (by (cpu_of me.0.view) me.0 is.1 (subst (λ (p : Settings × CpuView). CpuMay p.0 p.1 i (λ n. n) (λ n. did (Hear (Some p.1.id)) Done) (λ v n w. tells v w)) (λ k. (same k, view k)) may))
  where
    by : (u : CpuView) (l : Logged) → l.ended ≡ false → CpuMay y u i (λ n. n) (λ n. did (Hear (Some u.id)) Done) (λ v n w. tells v w)
        → Allows (LoggedRuled y) slots id (record l { view = Cpu u }, []) i (λ n. n) (heard_by_cpu tells st (record l { view = Cpu u }, []))
    by u l going may s r size at fits =
        let d = logged_hears y (record l { view = Cpu u }) i (λ n. n) (Some u.id) (λ n w. (w ≡ Cpu (cpu_of w)) × tells u (cpu_of w)) tt going refl may s r id at fits in
        let after = l.log ++ heard_from (Some u.id) l.teller in (
          record l { view = d.0; log = after; known_log = d.1; list = d.2 },
          keeps,
          tt,
          d.3,
          (
            (λ k. (record l { view = d.4.0 k; log = after; known_log = d.1; list = d.2 }, [])),
            refl,
            d.4.1,
            d.5,
            subst (λ (ds : List LogItem). IsShownAfter ds (Cpu u)) (sym d.6) (shown_after y (Cpu u) l s r id at),
            d.7,
          ),
        )

-- the keeper's load that hears a note
pub allows_note_hearing : (z y : Settings) (x : KeeperView) (slots id : ℕ) (me : Me ℕ Logged) (i : ℕ) (tells : KeeperView → KeeperView → Type 0) (st : Step ℕ)
    → z ≡ y → x ≡ keeper_of me.0.view → (me ≡ (record me.0 { view = Keeper (keeper_of me.0.view) }, [])) × (me.0.ended ≡ false) → KeeperMay z x i (λ n. n) (λ n. did (Hear None) Done) (λ k n l. tells k l)
    → Allows (LoggedRuled y) slots id me i (λ n. n) (hears_note tells st me)
allows_note_hearing z y x slots id me i tells st same view is may =
    subst (λ (m : Me ℕ Logged). Allows (LoggedRuled y) slots id m i (λ n. n) (hears_note tells st m)) (sym is.0)
    (by (keeper_of me.0.view) me.0 is.1 (subst (λ (p : Settings × KeeperView). KeeperMay p.0 p.1 i (λ n. n) (λ n. did (Hear None) Done) (λ k n l. tells k l)) (λ k. (same k, view k)) may))
  where
    by : (u : KeeperView) (l : Logged) → l.ended ≡ false → KeeperMay y u i (λ n. n) (λ n. did (Hear None) Done) (λ k n l. tells k l)
        → Allows (LoggedRuled y) slots id (record l { view = Keeper u }, []) i (λ n. n) (hears_note tells st (record l { view = Keeper u }, []))
    by u l going may s r size at fits =
        let d = logged_heard y (record l { view = Keeper u }) i (λ n. n) (λ n w. (w ≡ Keeper (keeper_of w)) × tells u (keeper_of w)) tt going refl may s r id at fits in
        let after = l.log ++ heard_from None l.teller in
        (moved l d.0 after d.1, keeps, tt, d.2, ((λ k. (moved l (d.3.0 k) after d.1, [])), refl, d.3.1, own_log y u l s r id at, d.4))
