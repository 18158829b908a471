-- Looks for no entry, CPU by CPU, and the end of a perform: all CPUs have passed for what was retired.
use Rattle.std.proofs.Common.{◌≡◌, ℕ, zero, suc, ◌+◌, ◌<◌, List, ◌++◌, length, Bool, true, false, Option, Some, None, IfSome, Result, Err, get_or, set, refl, sym, ap, ◌∙◌, subst, arith, ◌⊎◌, inl, inr, ⊎_elim, ◌≤◌, [], ◌∷◌, eq-eqb, append_assoc}
use Rattle.std.specs.Option.{unwrap_or}
use Rattle.std.proofs.lemmas.List.{get_or-set_same, get_or-set_other, append-nil}
use Rattle.std.proofs.lemmas.Bool.{cases_eq, cases_lt}
use Rattle.std.proofs.lemmas.Option.{same_Some}
use mathlib.Core.List.{IsPrefix}
use Rattle.name_registry.specs.Types.{Event, Look, Snapshot, Word, Refusal, Settings, Inside, KeeperView, Change, Entry, Mark, Slot, Vacant, Live, Retired, MOST_SLOTS, LogItem, KeptSlot}
use Rattle.registry_values.specs.Common.{wait_answer, Grows, no_mark, is_retired_as, retired_number, slot_at}
use Rattle.protocol.specs.Common.{mark_at}
use Rattle.protocol.proofs.Cells.{grows_none, grows_more}
use Rattle.protocol.proofs.Occupied.{in_within}
use Rattle.cpu_words.specs.Common.{has_looked, standing, HasPassedOn, HasWaited, IsDetachedFrom, IsSnapped, KeepsSlot}
use Rattle.cpu_words.proofs.logs.Marks.{StandsIn, no_open, snapped_on, stands_more, stands_past}
use Rattle.cpu_words.proofs.logs.Slots.{kept_entry, kept_standing, not_attached, one_detached}
use Rattle.passive_list.specs.Common.{OnCpu, OnKeeper, HasOwnLog, HasHeardOn, cpu_after_tell, has_heard, HasRows, OnPlainKeeper, states_of}
use Rattle.passive_list.proofs.Rows.{few_slots, keeper_is, retired_in}
use Rattle.passive_list.proofs.Walking.{prefix_length}
use Rattle.name_registry.specs.Common.{keeper_after_hear, keeper_after_tell, GlancesBelow, GlancesOnce, HasPerformed, Hold, Looking, LooksOnce, PerformsOutside, SnapshotsBelow, is_seen, looking, word_of, MeetsGrace, PassedBelow, HasPassedAll, HasPassedFor, PassesBelow, PassesEntry, PassesIf}
use Rattle.name_registry.proofs.Noted.{heard_told, met, least_small, heard_told_again, met_again}

-- Looks for no entry, CPU by CPU: what a loop over the CPUs has done is so of rows that agree on them, and one CPU more follows.

-- two rows agree on the first n CPUs
abbrev pub Agree : {X : Type 0} → X → ℕ → List X → List X → Type 0
Agree d n xs ys = (c : ℕ) → c < n → get_or ys c d ≡ get_or xs c d

pub agree_set : {X : Type 0} (d : X) (n : ℕ) (xs : List X) (x : X) → Agree d n xs (set xs n x)
agree_set d n xs x c lt = get_or-set_other xs n c x d (λ e. absurd (omega (arith, lt, e)))

lesser : {X : Type 0} (d : X) (n : ℕ) (xs ys : List X) → Agree d (suc n) xs ys → Agree d n xs ys
lesser d n xs ys agree c lt = agree c (omega (arith, lt))

pub snapshots_by : (n : ℕ) (words others : List ℕ) (k l : Looking) → Agree 0 n words others → SnapshotsBelow words n k l → SnapshotsBelow others n k l
snapshots_by zero words others k l agree is = is
snapshots_by (suc n) words others k l agree is =
    (is.0, snapshots_by n words others k is.0 (lesser 0 n words others agree) is.1, subst (λ (w : ℕ). LooksOnce is.0 (Snapshot None n) w l) (sym (agree n (omega arith))) is.2)

-- the snapshot of the CPU n is the word w
pub snapshots_more : (n w : ℕ) (words : List ℕ) (k m l : Looking) → n < length words → SnapshotsBelow words n k m → LooksOnce m (Snapshot None n) w l → SnapshotsBelow (set words n w) (n + 1) k l
snapshots_more n w words k m l lt is look = subst (λ (j : ℕ). SnapshotsBelow (set words n w) j k l) (let e : suc n ≡ n + 1 = omega arith in e)
    (m, snapshots_by n words (set words n w) k m (agree_set 0 n words w) is, subst (λ (v : ℕ). LooksOnce m (Snapshot None n) v l) (sym (get_or-set_same words n w 0 lt)) look)

pub glances_by : (n : ℕ) (snapshots : List ℕ) (seen after others : List Bool) (k l : Looking) → Agree false n after others → GlancesBelow snapshots seen after n k l
    → GlancesBelow snapshots seen others n k l
glances_by zero snapshots seen after others k l agree is = is
glances_by (suc n) snapshots seen after others k l agree is =
    let next : GlancesOnce (word_of snapshots n) n (is_seen seen n) is.0 (is_seen others n) l =
    subst (λ (b : Bool). GlancesOnce (word_of snapshots n) n (is_seen seen n) is.0 b l) (sym (agree n (omega arith))) is.2 in
    (is.0, glances_by n snapshots seen after others k is.0 (lesser false n after others agree) is.1, next)

-- the CPU n is seen as b says
pub glances_more : (n : ℕ) (b : Bool) (snapshots : List ℕ) (seen after : List Bool) (k m l : Looking) → n < length after → GlancesBelow snapshots seen after n k m
    → GlancesOnce (word_of snapshots n) n (is_seen seen n) m b l → GlancesBelow snapshots seen (set after n b) (n + 1) k l
glances_more n b snapshots seen after k m l lt is once = subst (λ (j : ℕ). GlancesBelow snapshots seen (set after n b) j k l) (let e : suc n ≡ n + 1 = omega arith in e) (
  m,
  glances_by n snapshots seen after (set after n b) k m (agree_set false n after b) is,
  subst (λ (v : Bool). GlancesOnce (word_of snapshots n) n (is_seen seen n) m v l) (sym (get_or-set_same after n b false lt)) once,
)

-- What looks leave of the keeper

-- looks and notes alone were counted
abbrev pub OnlyLooked : KeeperView → KeeperView → Type 0
OnlyLooked k l = l ≡ record k { looks = l.looks; last_look = l.last_look; noted_pass = l.noted_pass }

looked_none : (k l : Looking) → l ≡ k → OnlyLooked k.view l.view
looked_none k l is = subst (OnlyLooked k.view) (sym (ap (λ (x : Looking). x.view) is)) refl

looked_once : (k m l : Looking) (e : Event) (w : ℕ) → OnlyLooked k.view m.view → LooksOnce m e w l → OnlyLooked k.view l.view
looked_once k m l e w had once =
    let view : l.view ≡ record m.view { looks = suc m.view.looks; last_look = Some (record { event = e; reply = Word w }) } = ap (λ (x : Looking). x.view) once.change in
    subst (λ (v : KeeperView). v ≡ record k.view { looks = v.looks; last_look = v.last_look; noted_pass = v.noted_pass }) (sym view)
    (ap (λ (v : KeeperView). record v { looks = suc m.view.looks; last_look = Some (record { event = e; reply = Word w }) }) had)

pub snapshots_look : (words : List ℕ) (n : ℕ) (k l : Looking) → SnapshotsBelow words n k l → OnlyLooked k.view l.view
snapshots_look words zero k l is = looked_none k l is
snapshots_look words (suc n) k l is = looked_once k is.0 l (Snapshot None n) (word_of words n) (snapshots_look words n k is.0 is.1) is.2

glance_looks : (snapshot c : ℕ) (seen after : Bool) (k m l : Looking) → OnlyLooked k.view m.view → GlancesOnce snapshot c seen m after l → OnlyLooked k.view l.view
glance_looks snapshot c true after k m l had is = subst (λ (x : Looking). OnlyLooked k.view x.view) (sym is.1) had
glance_looks snapshot c false after k m l had is = looked_once k m l (Look None c) is.0 had is.1

pub glances_look : (snapshots : List ℕ) (seen after : List Bool) (n : ℕ) (k l : Looking) → GlancesBelow snapshots seen after n k l → OnlyLooked k.view l.view
glances_look snapshots seen after zero k l is = looked_none k l is
glances_look snapshots seen after (suc n) k l is = glance_looks (word_of snapshots n) n (is_seen seen n) (is_seen after n) k is.0 l (glances_look snapshots seen after n k is.0 is.1) is.2

-- a hold, from what its three parts leave: the hearing, which leaves the CPU, the looks, and the telling
pub made_hold : (looks : Looking → Looking → Type 0) (z : Settings) (a h l b : OnKeeper) (x same y : OnCpu) → h ≡ keeper_after_hear a x → IsPrefix x.view.pass h.view.history
    → IsPrefix x.known_log a.log → HasOwnLog z a → same ≡ cpu_after_tell x
    → looks (looking h) (looking l) → l.slots ≡ h.slots → b ≡ keeper_after_tell l → HasHeardOn l.view.history same y → IsPrefix b.log y.known_log → y.log ≡ same.log ++ has_heard same None
    → Hold looks a x b y
made_hold looks z a h l b x same y heard pass known own is made slots tells hears told log =
    record {
      known = known;
      seen = omega (arith, prefix_length x.view.pass h.view.history pass, ap (λ (k : OnKeeper). length k.view.history) heard, own.changes);
      end = looking l;
      made = subst (λ (k : OnKeeper). looks (looking k) (looking l)) heard made;
      view = ap (λ (k : OnKeeper). k.view) tells;
      slots = ap (λ (k : OnKeeper). k.slots) tells ∙ (slots ∙ ap (λ (k : OnKeeper). k.slots) heard);
      log = ap (λ (k : OnKeeper). k.log) tells;
      hears = subst (λ (k : OnKeeper). HasHeardOn k.view.history x y) (sym tells) (heard_told l.view.history x y (subst (λ (o : OnCpu). HasHeardOn l.view.history o y) is hears));
      told = told;
      cpu_log = met x same y is log;
    }

-- What was made

-- the CPU that a turn told is one of the table's
pub told_small : (z : Settings) (turns : ℕ) (x y : OnCpu) (told : Option ℕ) → HasPerformed z turns x told y → IfSome told (λ c. c < z.cpus)
told_small z turns x y told is =
    subst (λ (o : Option ℕ). IfSome o (λ c. c < z.cpus)) (sym is.waits.last.3.2.least) (least_small _ z.cpus)

pub performs_outside : (z : Settings) (turns : ℕ) (inside : Bool) (x y : OnCpu) (told : Option ℕ) (result : Result (Unit {0}) Refusal) → inside ≡ false → result ≡ wait_answer told
    → HasPerformed z turns x told y → PerformsOutside z turns inside x result y
performs_outside z turns inside x y told result outside is made = subst (λ (b : Bool). PerformsOutside z turns b x result y) (sym outside) (told, is, made)

pub performs_inside : (z : Settings) (turns : ℕ) (inside : Bool) (x : OnCpu) → inside ≡ true → PerformsOutside z turns inside x (Err Inside) x
performs_inside z turns inside x is = subst (λ (b : Bool). PerformsOutside z turns b x (Err Inside) x) (sym is) (refl, refl)

-- The end of a perform: its looks find no section open that was open before the wait, so all CPUs have passed for what was retired.

-- What passes leave

-- the log goes on, marks grow, and no slot changes
pub record Onward (a b : OnKeeper) : Type 0 where
  pub settings : b.view.settings ≡ a.view.settings
  pub slots : b.slots ≡ a.slots
  pub log : IsPrefix a.log b.log
  pub marks : (t c : ℕ) → Grows (mark_at a.view.marks t c) (mark_at b.view.marks t c)

onward_none : (a b : OnKeeper) → b ≡ a → Onward a b
onward_none a b is = subst (Onward a) (sym is) record { settings = refl; slots = refl; log = ([], append-nil a.log); marks = λ t c. grows_none (mark_at a.view.marks t c) }

onward_more : (a m b : OnKeeper) → Onward a m → Onward m b → Onward a b
onward_more a m b p q = record {
  settings = q.settings ∙ p.settings;
  slots = q.slots ∙ p.slots;
  log = (p.log.0 ++ q.log.0, sym (append_assoc a.log p.log.0 q.log.0) ∙ (ap (λ (l : List LogItem). l ++ q.log.0) p.log.1 ∙ q.log.1));
  marks = λ t c. grows_more _ _ _ (p.marks t c) (q.marks t c);
}

onward_for : (z : Settings) (a : OnKeeper) (t : ℕ) (b : OnKeeper) → HasPassedFor z a t b → Onward a b
onward_for z a t b has =
    let worked = has.leaves.worked in record {
      settings = ap (λ (k : KeeperView). k.settings) worked.only;
      slots = worked.slots;
      log = (has.log.since, sym has.log.are);
      marks = λ u c. ⊎_elim
          (λ (same : u ≡ t). subst (λ (v : ℕ). Grows (mark_at a.view.marks v c) (mark_at b.view.marks v c)) (sym same) (worked.marks.here c))
          (λ (off : u ≡ t → ⊥). subst (λ (row : List Mark). Grows (mark_at a.view.marks u c) (get_or row c no_mark)) (sym (worked.marks.elsewhere u off)) (grows_none (mark_at a.view.marks u c)))
          (cases_eq u t);
    }

onward_if : (z : Settings) (a : OnKeeper) (t : ℕ) (still : Bool) (b : OnKeeper) → PassesIf still z a t b → Onward a b
onward_if z a t true b has = onward_for z a t b has
onward_if z a t false b is = onward_none a b is

onward_entry : (z : Settings) (a : OnKeeper) (t n : ℕ) (b : OnKeeper) → PassesEntry z a t n b → Onward a b
onward_entry z a t n b is = onward_if z a t (is_retired_as n (slot_at a.slots t)) b is

pub onward_below : (z : Settings) (numbers : List ℕ) (n : ℕ) (a b : OnKeeper) → PassesBelow z numbers n a b → Onward a b
onward_below z numbers zero a b is = onward_none a b is
onward_below z numbers (suc n) a b is = onward_more a is.0 b (onward_below z numbers n a is.0 is.1) (onward_entry z is.0 n (word_of numbers n) b is.2)

-- an entry that is retired still is looked at for all CPUs
record PassedAt (z : Settings) (a : OnKeeper) (t : ℕ) (b : OnKeeper) : Type 0 where
  before : OnKeeper
  after : OnKeeper
  first : Onward a before
  passes : HasPassedFor z before t after
  last : Onward after b

still_there : (z : Settings) (a : OnKeeper) (t n : ℕ) (b : OnKeeper) (e : Entry) → slot_at a.slots t ≡ Retired e → e.number ≡ n → PassesEntry z a t n b → HasPassedFor z a t b
still_there z a t n b e at same is =
    subst (λ (s : Bool). PassesIf s z a t b) (ap (is_retired_as n) at ∙ eq-eqb e.number n same) is

passed_at : (z : Settings) (numbers : List ℕ) (n : ℕ) (a b : OnKeeper) → PassesBelow z numbers n a b → (t k : ℕ) (e : Entry) → t < n → word_of numbers t ≡ k
    → slot_at a.slots t ≡ Retired e → e.number ≡ k → PassedAt z a t b
passed_at z numbers zero a b is t k e lt number at same = absurd (omega (arith, lt))
passed_at z numbers (suc n) a b is t k e lt number at same = ⊎_elim
    (λ (below : t < n).
    let p = passed_at z numbers n a is.0 is.1 t k e below number at same in
    record { before = p.before; after = p.after; first = p.first; passes = p.passes; last = onward_more p.after is.0 b p.last (onward_entry z is.0 n (word_of numbers n) b is.2) })
    (λ (ge : n ≤ t).
    let here : n ≡ t = omega (arith, lt, ge) in
    let first = onward_below z numbers n a is.0 is.1 in
    let its : PassesEntry z is.0 t k b = subst (λ (o : ℕ). PassesEntry z is.0 t o b) number (subst (λ (u : ℕ). PassesEntry z is.0 u (word_of numbers u) b) here is.2) in
    record { before = is.0; after = b; first = first; passes = still_there z is.0 t k b e (ap (λ (xs : List Slot). slot_at xs t) first.slots ∙ at) same its; last = onward_none b b refl })
    (cases_lt t n)

-- past the table's slots nothing is retired, so nothing is looked at there
pub none_retired : (x : OnPlainKeeper) (rows : List KeptSlot) (t : ℕ) → HasRows x rows → x.words.settings.slots ≤ t → retired_number (slot_at x.keeper.slots t) ≡ None
none_retired x rows t has past = subst (λ (k : OnKeeper). retired_number (slot_at k.slots t) ≡ None) (keeper_is has.are) (by_state (slot_at (states_of rows) t) refl)
  where
    by_state : (x : Slot) → slot_at (states_of rows) t ≡ x → retired_number x ≡ None
    by_state Vacant is = refl
    by_state (Live e) is = refl
    by_state (Retired e) is = absurd (omega (arith, past, (retired_in x.words.settings x.keeper.view rows t e has.agree.rows is).0))

not_retired : (n : ℕ) (x : Slot) → retired_number x ≡ None → is_retired_as n x ≡ false
not_retired n Vacant none = refl
not_retired n (Live e) none = refl
not_retired n (Retired e) none = let q : ◌≡◌ {A = Option ℕ} (Some e.number) None = none in cc

pub passes_past : (z : Settings) (numbers : List ℕ) (s : ℕ) (a b : OnKeeper) → PassesBelow z numbers s a b → ((t : ℕ) → s ≤ t → retired_number (slot_at a.slots t) ≡ None)
    → (n : ℕ) → s ≤ n → PassesBelow z numbers n a b
passes_past z numbers s a b had none zero le = let same : s ≡ 0 = omega (arith, le) in subst (λ (m : ℕ). PassesBelow z numbers m a b) same had
passes_past z numbers s a b had none (suc n) le = ⊎_elim
    (λ (high : n < s). let same : s ≡ suc n = omega (arith, le, high) in subst (λ (m : ℕ). PassesBelow z numbers m a b) same had)
    (λ (low : s ≤ n). (b, passes_past z numbers s a b had none n low, by_number n low (word_of numbers n)))
    (cases_lt n s)
  where
    by_number : (t : ℕ) → s ≤ t → (k : ℕ) → PassesEntry z b t k b
    by_number t low k =
        let same : slot_at b.slots t ≡ slot_at a.slots t = ap (λ (xs : List Slot). slot_at xs t) (onward_below z numbers s a b had).slots in
        subst (λ (is : Bool). PassesIf is z b t b) (sym (ap (is_retired_as k) same ∙ not_retired k (slot_at a.slots t) (none t low))) refl

-- After the wait

-- The keeper h has heard the caller, who knew then what it had done `before` and since; it had waited since for all CPUs. After its passes it is `end`.
pub record Passing (z : Settings) (numbers : List ℕ) (h end : OnKeeper) (before since gap : List LogItem) : Type 0 where
  pub passes : PassesBelow z numbers MOST_SLOTS h end
  pub own : HasOwnLog z end
  pub log : h.log ≡ (before ++ since) ++ gap
  pub waited : HasWaited since z.cpus

-- no look met a section of a snapshot that was taken before
met_none : (z : Settings) (numbers : List ℕ) (h end : OnKeeper) (before since gap more : List LogItem) (t j : ℕ) → Passing z numbers h end before since gap → (p : PassedAt z h t end)
    → ((c : ℕ) → c < z.cpus → (w : ℕ) × IsSnapped t c w before)
    → end.log ≡ before ++ more → KeepsSlot t more → MeetsGrace p.before t j p.after → ⊥
met_none z numbers h end before since gap more t j on p snapped all keeps meets =
    let sees = meets.sees in
    let w = sees.word in
    let d = has_looked t j w in
    let low : j < z.cpus = subst (λ (s : Settings). j < s.cpus) (sym (p.last.settings ∙ ap (λ (k : KeeperView). k.settings) p.passes.leaves.worked.only) ∙ on.own.settings) meets.cpu in
    let now : (mark_at end.view.marks t j).snapshot ≡ Some w = (p.last.marks t j).snapshot ∙ sees.snapshot in
    let old = snapped j low in
    let by_log : (mark_at end.view.marks t j).snapshot ≡ Some old.0 =
    on.own.marks.marked t j old.0 (subst (IsSnapped t j old.0) (sym all) (snapped_on t j old.0 before more (kept_entry t more keeps) old.1)) in
    let first : List LogItem = p.first.log.0 in
    let last : List LogItem = p.last.log.0 in
    let looks : List LogItem = sees.log.0 ++ d ∷ [] in
    let rest : List LogItem = gap ++ (first ++ (looks ++ last)) in
    let to_first : p.before.log ≡ ((before ++ since) ++ gap) ++ first = sym p.first.log.1 ∙ ap (λ (l : List LogItem). l ++ first) on.log in
    let to_looks : p.after.log ≡ (((before ++ since) ++ gap) ++ first) ++ looks = sees.log.1 ∙ (append_assoc p.before.log sees.log.0 (d ∷ []) ∙ ap (λ (l : List LogItem). l ++ looks) to_first) in
    let whole : end.log ≡ before ++ (since ++ rest) =
    sym p.last.log.1 ∙ (ap (λ (l : List LogItem). l ++ last) to_looks ∙ (append_assoc (((before ++ since) ++ gap) ++ first) looks last
    ∙ (append_assoc ((before ++ since) ++ gap) first (looks ++ last) ∙ (append_assoc (before ++ since) gap (first ++ (looks ++ last)) ∙ append_assoc before since rest)))) in
    let there : StandsIn d rest =
    stands_past d gap (first ++ (looks ++ last)) (stands_past d first (looks ++ last) (stands_more d looks last (record { before = sees.log.0; after = []; are = refl }))) in
    no_open t j old.0 w end.log before since rest on.own.grow whole old.1 (on.waited j low) there (same_Some w old.0 (sym now ∙ by_log)) sees.odd

by_slot : (z : Settings) (numbers : List ℕ) (h end : OnKeeper) (before since gap more : List LogItem) (t n c : ℕ) (x : Slot) → slot_at end.slots t ≡ x
    → Passing z numbers h end before since gap → c < z.cpus → word_of numbers t ≡ n
    → ((j : ℕ) → j < z.cpus → (w : ℕ) × IsSnapped t j w before) → IsDetachedFrom t n end.log → end.log ≡ before ++ more → KeepsSlot t more → HasPassedOn t c end.log
by_slot z numbers h end before since gap more t n c Vacant at on low number snapped gone all keeps = on.own.slots.vacant t n c at gone low
by_slot z numbers h end before since gap more t n c (Live e) at on low number snapped gone all keeps = absurd (not_attached t n e.number end.log gone (on.own.slots.live t e at))
by_slot z numbers h end before since gap more t n c (Retired e) at on low number snapped gone all keeps =
    let lt : t < MOST_SLOTS = omega (arith, in_within end.slots t e (inr at), few_slots z end on.own) in
    let there : slot_at h.slots t ≡ Retired e = ap (λ (xs : List Slot). slot_at xs t) (sym (onward_below z numbers MOST_SLOTS h end on.passes).slots) ∙ at in
    let p = passed_at z numbers MOST_SLOTS h end on.passes t n e lt number there (one_detached t e.number n end.log (on.own.slots.retired t e at) gone) in
    ⊎_elim
    (λ (below : PassedBelow p.after.view t z.cpus). on.own.marks.passed t c ((p.last.marks t c).passed (below c low)))
    (λ (met : (j : ℕ) × MeetsGrace p.before t j p.after). absurd (met_none z numbers h end before since gap more t met.0 on p snapped all keeps met.1))
    p.passes.met

-- so the entry that had been detached by then has passed, unless its slot was reused
pub passed_end : (z : Settings) (numbers : List ℕ) (h end : OnKeeper) (before since gap more : List LogItem) (t n c : ℕ) → Passing z numbers h end before since gap → c < z.cpus
    → IsDetachedFrom t n before → word_of numbers t ≡ n
    → ((j : ℕ) → j < z.cpus → (w : ℕ) × IsSnapped t j w before) → end.log ≡ before ++ more → KeepsSlot t more → HasPassedOn t c end.log
passed_end z numbers h end before since gap more t n c on low gone number snapped all keeps =
    by_slot z numbers h end before since gap more t n c (slot_at end.slots t) refl on low number snapped (ap (standing t) all ∙ (kept_standing t before more keeps ∙ gone)) all keeps

-- As the perform began

-- an entry that was detached by then had passed on all CPUs, or its number was taken, and it has a snapshot of each CPU
abbrev pub IsReady : ℕ → List ℕ → List LogItem → ℕ → ℕ → Type 0
IsReady cpus numbers before t n = ((c : ℕ) → c < cpus → HasPassedOn t c before) ⊎ ((word_of numbers t ≡ n) × ((j : ℕ) → j < cpus → (w : ℕ) × IsSnapped t j w before))

ready_by : (z : Settings) (a : OnKeeper) (numbers : List ℕ) (t n : ℕ) (x : Slot) → slot_at a.slots t ≡ x → HasOwnLog z a
    → ((u : ℕ) → u < MOST_SLOTS → word_of numbers u ≡ unwrap_or (retired_number (slot_at a.slots u)) 0) → IsDetachedFrom t n a.log → IsReady z.cpus numbers a.log t n
ready_by z a numbers t n Vacant at own are gone = inl (λ c low. own.slots.vacant t n c at gone low)
ready_by z a numbers t n (Live e) at own are gone = absurd (not_attached t n e.number a.log gone (own.slots.live t e at))
ready_by z a numbers t n (Retired e) at own are gone =
    let lt : t < MOST_SLOTS = omega (arith, in_within a.slots t e (inr at), few_slots z a own) in
    inr (are t lt ∙ (ap (λ (s : Slot). unwrap_or (retired_number s) 0) at ∙ one_detached t e.number n a.log (own.slots.retired t e at) gone), λ j low. own.snapped t j e at low)

pub ready : (z : Settings) (a : OnKeeper) (numbers : List ℕ) → HasOwnLog z a → ((u : ℕ) → u < MOST_SLOTS → word_of numbers u ≡ unwrap_or (retired_number (slot_at a.slots u)) 0) → (t n : ℕ)
    → IsDetachedFrom t n a.log → IsReady z.cpus numbers a.log t n
ready z a numbers own are t n gone = ready_by z a numbers t n (slot_at a.slots t) refl own are gone

-- The hold, from what its parts say

pub made_passes : (z : Settings) (numbers : List ℕ) (a h end k b : OnKeeper) (x same after y : OnCpu) → IsPrefix x.known_log a.log → h ≡ keeper_after_hear a x → same ≡ cpu_after_tell x
    → PassesBelow z numbers MOST_SLOTS h end → HasOwnLog z end
    → k ≡ keeper_after_hear end same → after ≡ cpu_after_tell same → b ≡ keeper_after_tell k → HasHeardOn k.view.history after y → IsPrefix b.log y.known_log
    → y.log ≡ after.log ++ has_heard after None → HasPassedAll z a x numbers b y
made_passes z numbers a h end k b x same after y known heard first passes own again second is hears told log = record {
  known = known;
  end = end;
  passes = subst (λ (m : OnKeeper). PassesBelow z numbers MOST_SLOTS m end) heard passes;
  own = own;
  is = is ∙ ap keeper_after_tell (again ∙ ap (keeper_after_hear end) first);
  hears = heard_told_again b.view.history x y (subst (λ (o : OnCpu). HasHeardOn b.view.history o y) (second ∙ ap cpu_after_tell first)
      (subst (λ (h : List Change). HasHeardOn h after y) (sym (ap (λ (o : OnKeeper). o.view.history) is)) hears));
  told = told;
  cpu_log = met_again x same after y first second log;
}
