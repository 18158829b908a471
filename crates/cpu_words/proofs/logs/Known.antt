-- What the keeper's log says of the state, by a walk over the run, and what the keeper knows of it once it hears.
use Rattle.std.proofs.Common.{◌≡◌, ◌≢◌, ⊎_elim, ℕ, ◌<◌, ◌==◌, Bool, if◌then◌else◌, List, [], ◌∷◌, ◌++◌, length, set, Option, Some, None, get_or-set_same, get_or-set_other, eq-eqb, ne_eqb, refl, sym, ap, ◌∙◌, arith, ◌+◌, ◌≤◌, true, false, nat_lt, replicate, subst, suc}
use Rattle.std.proofs.lemmas.Bool.{and_parts, cases_eq}
use mathlib.Core.Option.{some}
use mathlib.Core.List.{IsPrefix}
use lib.ListN.{get_elem?}
use Rattle.atomic_table.specs.Table.{State as Table}
use Rattle.atomic_table.proofs.Lists.{at_map}
use Rattle.cpu_words.specs.Types.{Event, Reply, Entry, Mark, Settings, MOST_CPUS, Retired, Due, Rest, Snapshots, Adding, Subtracting, Change, Snapshot, Look, Done, Word}
use Rattle.registry_values.specs.Common.{no_mark, mark_after_look, mark_after_passive_look, slot_at}
use Rattle.protocol.specs.Common.{State, kept_at, Outcome, step, may_write, Holds, opening, with_cell, section_at, mark_at, count_at, passive_at, snapshot_mark, due_after, DueHolds, destroyed_slot, IsPublishing}
use Rattle.protocol.proofs.Made.{Made, KeepsDriver, SubsKept, made, Seats, Publishes, Unpublishes, Republishes, Snaps, Looks, LooksPassive, Collects, AddsTotal, JoinsKeeper, SubsTotal, Vacates, Glances, LooksAgain}
use Rattle.protocol.proofs.keeps.ListKeeps.{may_write_tells}
use Rattle.protocol.proofs.keeps.Searching.{within_some}
use Rattle.protocol.proofs.keeps.References.{snapshot_due_tells}
use Rattle.protocol.proofs.keeps.Linking.{within_retired}
use Rattle.protocol.proofs.Cells.{cell_other, mark_there, cell_put}
use Rattle.protocol.proofs.keeps.Keeping.{opening_holds}
use Rattle.cpu_words.specs.Common.{LogItem, Teller, number_or_none, by_number, keeps_next, keeping_from, keeping, word_in, changes_of, changes_in, AreCountsOf, AreTotalsOf, AreMarksOf, AreSlotsOf, maker, IsSeatOf, CpuView, KeeperView, Logged, View, Keeper, Cpu, log_item, FindsWord, WordsGrow, IsFreedFrom, IsAttachedKeeping, IsShownAfter, IsOwnLog, part, LoggedRuled, with_note, keeper_with_note}
use Rattle.cpu_words.proofs.logs.Runs.{item_of, Stays, walked, Follows, follows_holds, cut}
use Rattle.cpu_words.proofs.logs.Loads.{step_grows, unnamed_changes, run_of, fit_of, place, is_whole, same_event, word_of, replied_word, run_since}
use Rattle.cpu_words.proofs.logs.Counted.{counts_own, words_off, no_counts}
use Rattle.cpu_words.proofs.logs.Marks.{IsFirst, fresh, more_marks, no_marks}
use Rattle.cpu_words.proofs.logs.Slots.{slots_own, no_slots, changes_last}
use Rattle.cpu_words.proofs.logs.Totalled.{totals_own, no_totals}

-- What the keeper's log says of kept drivers.

keeping_both : (t : ℕ) (x : Option ℕ) (a b : List LogItem) → keeping_from t x (a ++ b) ≡ keeping_from t (keeping_from t x a) b
keeping_both t x [] b = refl
keeping_both t x (d ∷ ds) b = keeping_both t (keeps_next t d.event x) ds b

-- One event

-- the slot u has x then, and the others what they had
written : (keeps : List (Option ℕ)) (u t : ℕ) (x : Option ℕ) → u < length keeps → kept_at (set keeps u x) t ≡ (if u == t then x else kept_at keeps t)
written keeps u t x lt = ⊎_elim
    (λ (same : u ≡ t). ap (kept_at (set keeps u x)) (sym same) ∙ (get_or-set_same keeps u x None lt ∙ sym (ap (λ (b : Bool). if b then x else kept_at keeps t) (eq-eqb u t same))))
    (λ (off : u ≢ t). get_or-set_other keeps u t x None (λ same. off (sym same)) ∙ sym (ap (λ (b : Bool). if b then x else kept_at keeps t) (ne_eqb u t off)))
    (cases_eq u t)

-- the slot keeps after it what its item says
made_on : (t : ℕ) (s n : State) (e : Event) (r : Reply) → Holds s → Made s e n r → kept_at n.keeps t ≡ keeps_next t (by_number s e) (kept_at s.keeps t)
made_on t s _ _ _ on (KeepsDriver u id n v at of may) =
    let told = may_write_tells s u on.shape (and_parts (may_write s u) _ may).0 in
    written s.keeps u t (Some n) (omega (arith, told.1, on.shape.slots, on.shape.keeps)) ∙ ap (λ (x : Option ℕ). if u == t then Some (number_or_none x) else kept_at s.keeps t) (sym at)
made_on t s _ _ _ on (SubsKept u d v keeps of may) = written s.keeps u t None (within_some s.keeps u d keeps)
made_on t s _ _ _ on _ = refl

pub keeps_on : (t : ℕ) (s : State) (e : Event) (o : Outcome) → Holds s → step s e ≡ Some o → kept_at o.state.keeps t ≡ keeps_next t (by_number s e) (kept_at s.keeps t)
keeps_on t s e o on is = made_on t s o.state e o.reply on (made s e o is)

-- The keeper's next item

pub kept_own : (log : List LogItem) (s : State) (e : Event) (o : Outcome) (h : Option Teller) → Holds s → step s e ≡ Some o → ((t : ℕ) → kept_at s.keeps t ≡ keeping t log) → (t : ℕ)
    → kept_at o.state.keeps t ≡ keeping t (log ++ item_of s e o.reply h ∷ [])
kept_own log s e o h on made kept t = keeps_on t s e o on made ∙ (ap (keeps_next t (by_number s e)) (kept t) ∙ sym (keeping_both t None log (item_of s e o.reply h ∷ [])))

-- What the keeper's log says of the state, by a walk over the run: how many changes there were, marks and slots.

-- a snapshot that is due wasn't taken yet
abbrev pub NoneAhead : Due → List (List Mark) → Type 0
NoneAhead due marks = (t c j : ℕ) → due ≡ Snapshots t c → c ≤ j → (mark_at marks t j).snapshot ≡ None

pub record Known (cpus : ℕ) (log : List LogItem) (s : State) : Type 0 where
  pub settings : s.settings.cpus ≡ cpus
  pub changes : length s.history ≡ changes_in log
  pub marks : AreMarksOf log s.marks
  pub slots : AreSlotsOf cpus log s.slots
  pub kept : (t : ℕ) → kept_at s.keeps t ≡ keeping t log
  pub ahead : NoneAhead s.due s.marks
  pub counts : AreCountsOf log s
  pub totals : AreTotalsOf log s

-- Snapshots that are due

same_snapshots : (due later : Due) (marks new : List (List Mark)) → ((u d : ℕ) → later ≡ Snapshots u d → due ≡ Snapshots u d) → ((u j : ℕ) → (mark_at new u j).snapshot ≡ (mark_at marks u j).snapshot)
    → NoneAhead due marks → NoneAhead later new
same_snapshots due later marks new stays same none t c j is le = same t j ∙ none t c j (stays t c is) le

cell_snapshot : (marks : List (List Mark)) (t c : ℕ) (m : Mark) → m.snapshot ≡ (mark_at marks t c).snapshot → (u j : ℕ) → (mark_at (with_cell marks t c m) u j).snapshot ≡ (mark_at marks u j).snapshot
cell_snapshot marks t c m same u j = cell_put no_mark marks t c m (λ v e x. x.snapshot ≡ (mark_at marks v e).snapshot) u j same refl

next_snapshots : (cpus t c u d : ℕ) (b : Bool) → (if b then Snapshots t (c + 1) else Rest) ≡ Snapshots u d → (u ≡ t) × (d ≡ c + 1)
next_snapshots cpus t c u d true is = (let q : Snapshots t (c + 1) ≡ Snapshots u d = is in cc, let q : Snapshots t (c + 1) ≡ Snapshots u d = is in cc)
next_snapshots cpus t c u d false is = absurd (let q : Rest ≡ Snapshots u d = is in cc)

taken_next : (s : State) (t c : ℕ) (due : Due) → due ≡ due_after s t c → s.due ≡ Snapshots t c → NoneAhead s.due s.marks → NoneAhead due (with_cell s.marks t c (snapshot_mark (section_at s c)))
taken_next s t c due next now none u d j is le =
    let p = next_snapshots s.settings.cpus t c u d (nat_lt (c + 1) s.settings.cpus) (sym next ∙ is) in
    let far : j ≡ c → ⊥ = λ same. absurd (let at = p.1 in omega (arith, le, at, same)) in
    let low : c ≤ j = let at = p.1 in omega (arith, le, at) in
    let old : mark_at (with_cell s.marks t c (snapshot_mark (section_at s c))) t j ≡ mark_at s.marks t j = cell_other no_mark s.marks t c (snapshot_mark (section_at s c)) t j (λ a b. far b) in
    subst (λ (k : ℕ). (mark_at (with_cell s.marks t c (snapshot_mark (section_at s c))) k j).snapshot ≡ None) (sym p.0) (ap (λ (m : Mark). m.snapshot) old ∙ none t c j now low)

retired_next : (marks : List (List Mark)) (t : ℕ) (due : Due) → due ≡ Snapshots t 0 → NoneAhead due (set marks t (replicate MOST_CPUS no_mark))
retired_next marks t due now u d j is le =
    let q : Snapshots t 0 ≡ Snapshots u d = sym now ∙ is in
    let same : u ≡ t = cc in
    ap (λ (k : ℕ). (mark_at (set marks t (replicate MOST_CPUS no_mark)) k j).snapshot) same ∙ ap (λ (m : Mark). m.snapshot) (fresh marks t j)

ahead_after : (s n : State) (e : Event) (r : Reply) → Made s e n r → NoneAhead s.due s.marks → NoneAhead n.due n.marks
ahead_after s n _ _ (Unpublishes t head next e at rest is) none = retired_next s.marks t n.due refl
ahead_after s n _ _ (Republishes t u head next e f of at may is) none = retired_next s.marks u n.due refl
ahead_after s n _ _ (Snaps t c due) none = taken_next s t c n.due refl (snapshot_due_tells s.due t c due) none
ahead_after s n _ _ (Looks t c may) none = same_snapshots s.due n.due s.marks n.marks (λ u d is. is) (cell_snapshot s.marks t c (mark_after_look (mark_at s.marks t c) (section_at s c)) refl) none
ahead_after s n _ _ (LooksPassive t c may) none =
    same_snapshots s.due n.due s.marks n.marks (λ u d is. is) (cell_snapshot s.marks t c (mark_after_passive_look (mark_at s.marks t c) (passive_at s.passive c t)) refl) none
ahead_after s n _ _ (Collects t c may) none = λ u d j is. absurd (let q : Adding t (count_at s.counts c t) ≡ Snapshots u d = is in cc)
ahead_after s n _ _ (AddsTotal t old due) none = λ u d j is. absurd (let q : Rest ≡ Snapshots u d = is in cc)
ahead_after s n _ _ (SubsTotal t due) none = λ u d j is. absurd (let q : Rest ≡ Snapshots u d = is in cc)
ahead_after s n _ _ (JoinsKeeper id m t at of may) none = λ u d j is. absurd (let q : Subtracting t ≡ Snapshots u d = is in cc)
ahead_after s n _ _ _ none = none

-- a snapshot that is due is the first
first_due : (s : State) (t c : ℕ) → Holds s → NoneAhead s.due s.marks → s.due ≡ Snapshots t c → IsFirst s t c
first_due s t c on none due =
    let at : (c < s.settings.cpus) × ((e : Entry) × (slot_at s.slots t ≡ Retired e)) = subst (DueHolds s.settings.cpus s.slots) due on.references.due_at in
    (none t c c due (omega arith), mark_there s t c (snapshot_mark (section_at s c)) on (omega (arith, within_retired s.slots t at.1.0 at.1.1, on.shape.slots)) at.0)

-- The walk

settings_stay : (s n : State) (e : Event) (r : Reply) → Made s e n r → n.settings ≡ s.settings
settings_stay s _ _ _ (Seats c may) = refl
settings_stay s _ _ _ _ = refl

known_own : (cpus : ℕ) (log : List LogItem) (s : State) (e : Event) (o : Outcome) (h : Option Teller) → Holds s → step s e ≡ Some o → Known cpus log s
    → Known cpus (log ++ item_of s e o.reply h ∷ []) o.state
known_own cpus log s e o h on is known =
    let n = o.state in
    let r = o.reply in
    let m : Made s e n r = made s e o is in
    let d : LogItem = item_of s e r h in
    let slots : AreSlotsOf s.settings.cpus log s.slots = subst (λ (k : ℕ). AreSlotsOf k log s.slots) (sym known.settings) known.slots in
    record {
      settings = ap (λ (z : Settings). z.cpus) (settings_stay s n e r m) ∙ known.settings;
      changes = step_grows s e o is ∙ (ap (changes_of e) known.changes ∙ (sym (unnamed_changes s e (changes_in log)) ∙ sym (changes_last log d)));
      marks = more_marks log s n e r h m (λ t c due. first_due s t c on known.ahead due) known.marks;
      slots = subst (λ (k : ℕ). AreSlotsOf k (log ++ d ∷ []) n.slots) known.settings (slots_own log s n e r h on m known.changes known.marks slots);
      kept = λ t. kept_own log s e o h on is known.kept t;
      ahead = ahead_after s n e r m known.ahead;
      counts = counts_own log s n e r h on m known.changes known.counts;
      totals = totals_own log s n e r h on m (record { changes = known.changes; kept = known.kept; counts = known.counts; totals = known.totals });
    }

-- n, with all of s that the keeper's log tells
abbrev with_told : State → State → State
with_told s n = record n { settings = s.settings; history = s.history; slots = s.slots; marks = s.marks; keeps = s.keeps; totals = s.totals; due = s.due }

-- an event of another seat leaves all of that
told_stays : (seat : ℕ → ℕ) (k i : ℕ) (s n : State) (e : Event) (r : Reply) → IsSeatOf seat k i (maker (by_number s e)) → i ≢ 0 → Made s e n r → with_told s n ≡ n
told_stays seat k i s _ _ _ is off (Publishes t e of may) = absurd (off is)
told_stays seat k i s _ _ _ is off (Unpublishes t head next e at rest past) = absurd (off is)
told_stays seat k i s _ _ _ is off (Republishes t u head next e f of at may past) = absurd (off is)
told_stays seat k i s _ _ _ is off (Snaps t c due) = absurd (off is)
told_stays seat k i s _ _ _ is off (Looks t c may) = absurd (off is)
told_stays seat k i s _ _ _ is off (LooksPassive t c may) = absurd (off is)
told_stays seat k i s _ _ _ is off (Collects t c may) = absurd (off is)
told_stays seat k i s _ _ _ is off (AddsTotal t old due) = absurd (off is)
told_stays seat k i s _ _ _ is off (JoinsKeeper id n t at of may) = absurd (off is)
told_stays seat k i s _ _ _ is off (SubsTotal t due) = absurd (off is)
told_stays seat k i s _ _ _ is off (KeepsDriver t id n u at of may) = absurd (off is)
told_stays seat k i s _ _ _ is off (SubsKept t d u keeps of may) = absurd (off is)
told_stays seat k i s _ _ _ is off (Vacates t may) = absurd (off is)
told_stays seat k i s _ _ _ is off _ = refl

known_off : (seat : ℕ → ℕ) (k cpus i : ℕ) (log : List LogItem) (s : State) (e : Event) (o : Outcome) → IsSeatOf seat k i (maker (by_number s e)) → i ≢ 0 → Holds s → step s e ≡ Some o
    → Known cpus log s → Known cpus log o.state
known_off seat k cpus i log s e o is off on made_it known =
    let n = o.state in
    let m : Made s e n o.reply = made s e o made_it in
    let same = told_stays seat k i s n e o.reply is off m in
    let word : (t c : ℕ) → word_in (with_told s n) t c ≡ word_in s t c = λ t c. ap (λ (g : State). word_in g t c) same ∙ words_off seat k i s n e o.reply is off on m t c in
    subst (Known cpus log) same (record {
      settings = known.settings;
      changes = known.changes;
      marks = known.marks;
      slots = known.slots;
      kept = known.kept;
      ahead = known.ahead;
      counts = record { occupants = known.counts.occupants; words = λ t c. known.counts.words t c ∙ sym (word t c) };
      totals = record { total = known.totals.total; later = known.totals.later };
    })

pub known_stays : (seat : ℕ → ℕ) (n cpus : ℕ) → Stays seat n (Known cpus)
known_stays seat n cpus = record {
  own = λ log s e o h on made known. known_own cpus log s e o h on made known;
  off = λ i log s e o is off on made known. known_off seat n cpus i log s e o is off on made known;
}

-- before all events
pub known_first : (z : Settings) → Known z.cpus [] (opening z)
known_first z = record {
  settings = refl;
  changes = refl;
  marks = no_marks z;
  slots = no_slots z;
  kept = λ t. Rattle.protocol.proofs.Cells.get_or_all z.slots None t;
  counts = no_counts z;
  totals = no_totals z;
  ahead = λ t c j is le. absurd (let q : Rest ≡ Snapshots t c = is in cc);
}

-- What the keeper knows of its own log once it hears: it has all changes of the history, its marks and slots, and section words that grow.

-- Words grow

-- a load of a section word returns that word
abbrev HasReply : State → Event → Reply → Type 0
HasReply s (Snapshot to c) r = r ≡ Word (section_at s c)
HasReply s (Look to c) r = r ≡ Word (section_at s c)
HasReply s e r = Unit {0}

made_replies : (s t : State) (e : Event) (r : Reply) → Made s e t r → HasReply s e r
made_replies s _ _ _ (Glances c) = refl
made_replies s _ _ _ (Snaps t c due) = refl
made_replies s _ _ _ (LooksAgain c) = refl
made_replies s _ _ _ (Looks t c may) = refl
made_replies s _ _ _ _ = tt

found_word : (s : State) (e : Event) (o : Outcome) (c w : ℕ) (d : LogItem) → step s e ≡ Some o → d ≡ item_of s e o.reply d.teller → FindsWord c w d → section_at s c ≡ w
found_word s e o c w d is item finds =
    ⊎_elim
    (λ (p : d ≡ log_item (Snapshot finds.0 c) (Word w)). found (Snapshot finds.0 c) refl (λ r has. has) p)
    (λ (p : d ≡ log_item (Look finds.0 c) (Word w)). found (Look finds.0 c) refl (λ r has. has) p)
    finds.1
  where
    found : (f : Event) → is_whole f ≡ true → ((r : Reply) → HasReply s f r → r ≡ Word (section_at s c)) → d ≡ log_item f (Word w) → section_at s c ≡ w
    found f whole loads p =
        let event : f ≡ e = same_event s e f (ap (λ (x : LogItem). x.event) (sym p ∙ item)) whole in
        let reply = loads o.reply (subst (λ (x : Event). HasReply s x o.reply) (sym event) (made_replies s o.state e o.reply (made s e o is))) in
        sym (replied_word o.reply w (ap (λ (x : LogItem). x.reply) (sym p ∙ item)) ∙ ap word_of reply)

starts_word : (s : State) (d : LogItem) (c w : ℕ) (more : List (ℕ × LogItem)) (es : List Event) (t : State) → Follows s ((0, d) ∷ more) es t → FindsWord c w d → section_at s c ≡ w
starts_word s d c w more [] t run finds = absurd run
starts_word s d c w more (e ∷ es) t run finds = found_word s e run.0 c w d run.1 run.2 finds

words_grow : (s : State) (acts : List (ℕ × LogItem)) (es : List Event) (t : State) → Follows s acts es t → Holds s → WordsGrow (part 0 acts)
words_grow s acts es t run on c v w d e before between after are first second =
    let p = place 0 acts before (between ++ e ∷ after) d are in
    let x = cut s p.first ((0, d) ∷ p.second) es t (subst (λ (a : List (ℕ × LogItem)). Follows s a es t) p.are run) in
    let q = place 0 p.second between after e p.rest in
    let y = cut x.between ((0, d) ∷ q.first) ((0, e) ∷ q.second) x.later t (subst (λ (a : List (ℕ × LogItem)). Follows x.between ((0, d) ∷ a) x.later t) q.are x.since) in
    let up = (run_since c x.between ((0, d) ∷ q.first) y.earlier y.between y.before (follows_holds s p.first x.earlier x.between x.before on)).0.0 in
    omega (arith, starts_word x.between d c v p.second x.later t x.since first, starts_word y.between e c w q.second y.later t y.since second, up)

-- The keeper's log

log_known : (z : Settings) (s : Table ℕ Logged) (r : LoggedRuled z s) → Known z.cpus (part 0 r.acts) r.run.g
log_known z s r = subst (Known z.cpus (part 0 r.acts)) (sym r.run.reached.run)
    (walked r.run.seat r.run.g.seated (Known z.cpus) [] (opening z) r.acts r.run.reached.events _ (known_stays r.run.seat r.run.g.seated z.cpus) (run_of z s r)
    (opening_holds z (fit_of z s r)) r.owners (known_first z))

-- a state that shows a seat's view is one in which the keeper had done just what it did
pub shown_after : (z : Settings) (v : View) (l : Logged) (s : Table ℕ Logged) (r : LoggedRuled z s) (i : ℕ) → get_elem? s.views i ≡ some (record l { view = v }) → IsShownAfter (part 0 r.acts) v
shown_after z v l s r i at =
    let known = log_known z s r in record {
      g = r.run.g;
      good = r.run.good;
      shown = (r.run.shows.fits i v (at_map (λ (x : Logged). x.view) s.views i (record l { view = v }) at)).1;
      counts = known.counts;
      totals = known.totals;
    }

pub own_log : (z : Settings) (k : KeeperView) (l : Logged) (s : Table ℕ Logged) (r : LoggedRuled z s) (i : ℕ) → get_elem? s.views i ≡ some (record l { view = Keeper k }) → IsOwnLog l.log l.noted_log k
own_log z k l s r i at =
    let its = r.run.shows.fits i (Keeper k) (at_map (λ (x : Logged). x.view) s.views i (record l { view = Keeper k }) at) in
    let whole : l.log ≡ part 0 r.acts = r.logs i (record l { view = Keeper k }) at tt ∙ ap (λ (m : ℕ). part m r.acts) its.0 in
    let history : k.history ≡ r.run.g.history = ap (λ (x : KeeperView). x.history) its.1.is in
    let marks : k.marks ≡ r.run.g.marks = ap (λ (x : KeeperView). x.marks) its.1.is in
    let slots : k.slots ≡ r.run.g.slots = ap (λ (x : KeeperView). x.slots) its.1.is in
    let cpus : k.settings.cpus ≡ z.cpus = ap (λ (x : KeeperView). x.settings.cpus) its.1.is ∙ ap (λ (a : Settings). a.cpus) r.run.settings in
    let known : Known z.cpus (part 0 r.acts) r.run.g = log_known z s r in
    record {
      told = subst (IsPrefix l.noted_log) (sym whole) (r.known i (record l { view = Keeper k }) at).1;
      changes = ap (λ (h : List Change). length h) history ∙ known.changes ∙ ap changes_in (sym whole);
      marks = subst (λ (ds : List LogItem). AreMarksOf ds k.marks) (sym whole) (subst (AreMarksOf (part 0 r.acts)) (sym marks) known.marks);
      slots = subst (λ (ds : List LogItem). AreSlotsOf k.settings.cpus ds k.slots) (sym whole)
          (subst (AreSlotsOf k.settings.cpus (part 0 r.acts)) (sym slots) (subst (λ (n : ℕ). AreSlotsOf n (part 0 r.acts) r.run.g.slots) (sym cpus) known.slots));
      kept = λ t. ap (λ (x : KeeperView). kept_at x.keeps t) its.1.is ∙ (known.kept t ∙ ap (keeping t) (sym whole));
      grow = subst WordsGrow (sym whole) (words_grow (opening z) r.acts r.run.reached.events _ (run_of z s r) (opening_holds z (fit_of z s r)));
      counts = (k.noted_pass, subst (λ (ds : List LogItem). IsShownAfter ds (Keeper k)) (sym whole) (shown_after z (Keeper k) l s r i at));
    }

-- with the note beside it a CPU's view is shown
pub shown_with_note : (ds : List LogItem) (x y : CpuView) (h : List Change) → y ≡ with_note x h → IsShownAfter ds (Cpu y) → IsShownAfter ds (Cpu (with_note x h))
shown_with_note ds x y h is shown = subst (λ (v : CpuView). IsShownAfter ds (Cpu v)) is shown

-- a note that is laid beside the keeper's view changes neither its log nor its history and marks
pub own_with_note : (log same note noted_log : List LogItem) (k l : KeeperView) (h : List Change) → l ≡ keeper_with_note k h → same ≡ log → noted_log ≡ note → IsOwnLog same noted_log l
    → IsOwnLog log note k
own_with_note log same note noted_log k l h is logs notes own = record {
  told = subst (λ (p : List LogItem). IsPrefix p log) notes (subst (IsPrefix noted_log) logs own.told);
  changes = sym (ap (λ (x : KeeperView). length x.history) is) ∙ (own.changes ∙ ap changes_in logs);
  marks = subst (AreMarksOf log) (ap (λ (x : KeeperView). x.marks) is) (subst (λ (ds : List LogItem). AreMarksOf ds l.marks) logs own.marks);
  slots = subst (λ (ds : List LogItem). AreSlotsOf k.settings.cpus ds k.slots) logs (subst (λ (x : KeeperView). AreSlotsOf x.settings.cpus same x.slots) is own.slots);
  kept = λ t. sym (ap (λ (x : KeeperView). kept_at x.keeps t) is) ∙ (own.kept t ∙ ap (keeping t) logs);
  grow = subst WordsGrow logs own.grow;
  counts = (
    own.counts.0,
    subst (λ (ds : List LogItem). IsShownAfter ds (Keeper (keeper_with_note k own.counts.0))) logs
        (subst (λ (x : KeeperView). IsShownAfter same (Keeper (keeper_with_note x own.counts.0))) is own.counts.1),
  );
}

-- the item that makes a retired slot vacant frees it from its entry
pub freed_by : (t : ℕ) (log note : List LogItem) (k : KeeperView) (e : Entry) (d : LogItem) (more later : List LogItem) → IsOwnLog log note k → slot_at k.slots t ≡ Retired e
    → destroyed_slot d.event ≡ Some t → later ≡ log ++ d ∷ more → IsFreedFrom t e.number later
freed_by t log note k e d more later own at freed are = record { before = log; item = d; after = more; are = are; detached = own.slots.retired t e at; freed = freed }

-- an attach in a slot that keeps a driver
pub attached_by : (t : ℕ) (log note : List LogItem) (k : KeeperView) (d : ℕ) (event : Event) (later : List LogItem) → IsOwnLog log note k → kept_at k.keeps t ≡ Some d → IsPublishing t event
    → later ≡ log ++ log_item event Done ∷ []
    → IsAttachedKeeping t (suc (length k.history)) d later
attached_by t log note k d event later own keeps publishing are = record { before = log; after = []; event = event; publishing = publishing; are = are; number = ap suc own.changes; keeps = sym (own.kept t) ∙ keeps }
