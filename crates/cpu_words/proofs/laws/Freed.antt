-- Destroying: an entry whose slot the keeper made vacant is gone in any later state; drivers that are kept; and the end of a run.
use Rattle.std.proofs.Common.{◌≡◌, inl, length-set, inr, ⊎_elim, ℕ, true, IsTrue, List, [], ◌∷◌, ◌++◌, length, set, take, Option, Some, IsSome, refl, sym, ap, ◌∙◌, subst, append_assoc, length-append, arith, suc, ◌<◌}
use Rattle.std.proofs.lemmas.List.{append-nil}
use Rattle.std.proofs.lemmas.Option.{none-some, same_Some}
use mathlib.Core.List.{IsPrefix}
use lib.ListN.{get_elem?}
use mathlib.Core.Option.{some}
use Rattle.atomic_table.specs.Table.{State as Table}
use Rattle.atomic_table.proofs.Lists.{at_map}
use Rattle.cpu_words.specs.Types.{Entry, Change, Settings, Vacant, Retired, Event, Reply, Live, Publish, Republish, Done}
use Rattle.registry_values.specs.Common.{are_fit, slot_at}
use Rattle.protocol.specs.Common.{IsAttached, EndsAt, State, opening, Outcome, step, state_after, Holds, Occupies, IsUnheld, number_in, picture, after, occupant_of, destroyed_slot, kept_at, is_honest, live_at, seen_at, IsPublishing, ended_by}
use Rattle.protocol.proofs.Made.{Made, Vacates, SubsKept, made, Publishes, Republishes}
use Rattle.protocol.proofs.History.{one_entry, at_prefix, attached_within, ended_within}
use Rattle.protocol.proofs.keeps.Keeping.{opening_holds, step_holds}
use Rattle.protocol.proofs.keeps.MarkKeeps.{is_drained_tells}
use Rattle.protocol.proofs.model.RefiningEntries.{number_of}
use Rattle.protocol.proofs.runs.Headline.{unheld_unoccupied, obeys_laws}
use Rattle.protocol.proofs.runs.Reuse.{number_is, destroyed_drained}
use Rattle.protocol.proofs.Occupied.{attached_in, in_within, slot_cases}
use Rattle.protocol.proofs.keeps.ListKeeps.{may_publish_tells}
use Rattle.protocol.proofs.keeps.Replacing.{may_republish_tells}
use Rattle.protocol.proofs.keeps.Linking.{within_live}
use Rattle.protocol.proofs.Cells.{slot_here}
use Rattle.protocol.proofs.keeps.CountKeeps.{live_tells}
use Rattle.protocol.proofs.runs.Fresh.{honest_tells}
use Rattle.cpu_words.specs.Common.{LogItem, Logged, View, Good, ShowsViews, IsDetachedFrom, IsFreedFrom, part, without_logs, AreByOwn, EndedSeat, LoggedRuled, IsStillThere, end_of, RunsAsLogged, Sits, IsStanding, KeeperView, Keeper, log_item, changes_in, keeping, Agrees, CpuShown, CpuView, Cpu, KeeperShown, Shown, live_of, references_to, IsAttachedKeeping, by_number}
use Rattle.cpu_words.specs.Freed as specs
use Rattle.cpu_words.specs.Held
use Rattle.cpu_words.proofs.logs.Loads.{run_as_logged, same_event, place, halve}
use Rattle.cpu_words.proofs.shown.Seeing.{attached_prefix, prefix_both, taken_is_prefix}
use Rattle.cpu_words.proofs.shown.Showing.{backed}
use Rattle.cpu_words.proofs.laws.Safety.{running_headline, seat_has_slot}
use Rattle.cpu_words.proofs.laws.Held.{counts_exactly, frees_no_locals, frees_none_held, has_references, whole}
use Rattle.cpu_words.proofs.laws.Waiting.{own_first}
use Rattle.cpu_words.proofs.logs.Known.{Known, known_stays, known_first, keeps_on}
use Rattle.cpu_words.proofs.logs.Runs.{part_append, Follows, follows_after, follows_holds, cut, walked}
use Rattle.cpu_words.proofs.logs.Slots.{one_detached}

-- Destroying: an entry whose slot the keeper made vacant has no slot and no holder in any later state.

-- The event

-- the slot is vacant after it
empties : (s n : State) (e : Event) (r : Reply) (t : ℕ) → Made s e n r → destroyed_slot e ≡ Some t → n.slots ≡ set s.slots t Vacant
empties s _ _ _ t (Vacates u may) of = ap (λ (k : ℕ). set s.slots k Vacant) (same_Some u t of)
empties s _ _ _ t (SubsKept u d v keeps at may) of = ap (λ (k : ℕ). set s.slots k Vacant) (same_Some u t of)
empties s _ _ _ t _ of = absurd (none-some t of)

-- the entry's number is in no slot of n, which comes after m
record Freed (m n : State) (t k : ℕ) : Type 0 where
  e : Entry
  number : e.number ≡ k
  slot : e.slot ≡ t
  attached : IsAttached m.history e
  ended : (p : ℕ) × EndsAt m.history k p
  off : (u : ℕ) → occupant_of n u ≡ Some k → ⊥

freed_now : (cpus : ℕ) (log : List LogItem) (m : State) (e : Event) (o : Outcome) (t k : ℕ) → Holds m → step m e ≡ Some o → destroyed_slot e ≡ Some t → Known cpus log m → IsDetachedFrom t k log
    → Freed m o.state t k
freed_now cpus log m e o t k on is of known gone =
    let told = is_drained_tells m t on (destroyed_drained m e t of (subst (λ (p : Option Outcome). IsSome p) (sym is) refl)) in
    let f : Entry = told.1.0 in
    let here : slot_at m.slots t ≡ Retired f = told.1.1 in
    let was = on.slots.retired t f here in
    let same : f.number ≡ k = one_detached t f.number k log (known.slots.retired t f here) gone in
    let slots = empties m o.state e o.reply t (made m e o is) of in
    let its = attached_in m.history m.slots t f on.slots (inr here) in
    record {
      e = f;
      number = same;
      slot = its.1;
      attached = its.0;
      ended = (was.2.0, subst (λ (j : ℕ). EndsAt m.history j was.2.0) same was.2.1);
      off = λ u at. ⊎_elim
          (λ (now : (u ≡ t) × (slot_at (set m.slots t Vacant) u ≡ Vacant)). none-some k (sym (ap number_in (ap (λ l. slot_at l u) slots ∙ now.1)) ∙ at))
          (λ (old : (u ≡ t → ⊥) × (slot_at (set m.slots t Vacant) u ≡ slot_at m.slots u)).
          let has = number_is (slot_at m.slots u) k (ap number_in (sym (ap (λ l. slot_at l u) slots ∙ old.1)) ∙ at) in
          let there = attached_in m.history m.slots u has.0 on.slots has.1 in
          old.0 (sym there.1 ∙ (ap (λ (g : Entry). g.slot) (one_entry m.history has.0 f there.0 its.0 (has.2 ∙ sym same)) ∙ its.1)))
          (slot_cases m.slots t Vacant u (in_within m.slots t f (inr here)));
    }

-- The run

histories : (s : State) (acts : List (ℕ × LogItem)) (es : List Event) (t : State) → Follows s acts es t → Holds s → IsPrefix s.history t.history
histories s [] [] t is on = ([], append-nil s.history ∙ sym (ap (λ (g : State). g.history) is))
histories s [] (e ∷ es) t run on = absurd run
histories s (a ∷ more) [] t run on = absurd run
histories s (a ∷ more) (e ∷ es) t run on =
    let o = run.0 in
    let grows = (obeys_laws s on).answers.history e in
    let next : o.state.history ≡ s.history ++ grows.0 = subst (λ (p : Option Outcome). (state_after s p).history ≡ s.history ++ grows.0) run.1 grows.1 in
    prefix_both s.history o.state.history t.history (grows.0, sym next) (histories o.state more es t run.3 (step_holds s o.state e o.reply on run.1))

since_freed : (cpus : ℕ) (log : List LogItem) (m : State) (d : LogItem) (more : List (ℕ × LogItem)) (es : List Event) (g : State) (t k : ℕ)
    → Follows m ((0, d) ∷ more) es g → Holds m → Known cpus log m → IsDetachedFrom t k log → destroyed_slot d.event ≡ Some t → Freed m g t k
since_freed cpus log m d more [] g t k run on known gone of = absurd run
since_freed cpus log m d more (e ∷ es) g t k run on known gone of =
    let o = run.0 in
    let its : destroyed_slot e ≡ Some t = ap destroyed_slot (sym (same_event m e d.event (ap (λ (x : LogItem). x.event) run.2) (whole d.event t of))) ∙ of in
    let f : Freed m o.state t k = freed_now cpus log m e o t k on run.1 its known gone in
    let holds : Holds o.state = step_holds m o.state e o.reply on run.1 in
    let grows = (obeys_laws m on).answers.history e in
    let size = ap (λ (h : List Change). length h) (subst (λ (p : Option Outcome). (state_after m p).history ≡ m.history ++ grows.0) run.1 grows.1) ∙ length-append m.history grows.0 in
    let low = (attached_within m.history f.e f.attached).1 in
    let number = f.number in
    record {
      e = f.e;
      number = f.number;
      slot = f.slot;
      attached = f.attached;
      ended = f.ended;
      off = λ u is. (obeys_laws o.state holds).reuse.never es u k (omega (arith, size, low, number)) (f.off u) (ap (λ (q : State). occupant_of q u) (sym (follows_after o.state more es g run.3)) ∙ is);
    }

-- The law

-- what no slot has is held by no seat
gone_of : (m g : State) (seat : ℕ → ℕ) (s : Table ℕ View) (t k : ℕ) → Good g → ShowsViews g seat s.views → IsPrefix m.history g.history → Freed m g t k → specs.IsGone g s t k
gone_of m g seat s t k good shows grows f =
    let attached : IsAttached g.history f.e = attached_prefix m.history g.history f.e grows f.attached in
    let none : Occupies g.slots k → ⊥ = λ has. f.off has.0 (number_of (slot_at g.slots has.0) has.1 has.2 ∙ ap (λ (j : ℕ). Some j) has.3) in
    let within = (ended_within m.history k f.ended.0 f.ended.1).1 in
    record {
      e = f.e;
      number = f.number;
      slot = f.slot;
      attached = attached;
      ended = (f.ended.0, subst (λ (h : List Change). EndsAt h k f.ended.0) grows.1 (ap ended_by (at_prefix m.history grows.0 f.ended.0 within) ∙ f.ended.1));
      slotless = f.off;
      unheld = subst (λ (j : ℕ). IsUnheld (picture g) j) f.number
          (unheld_unoccupied g f.e good.holds attached (λ has. none (has.0, has.1, has.2, has.3 ∙ f.number)));
      seats = λ j v there holds. none (f.e.slot, f.e, seat_has_slot g f.e v good (shows.fits j v there).1 (backed g seat s.views j v shows there) attached holds, f.number);
    }

-- among acts with d and more by a seat, no own one comes before d
none_before : (a : List LogItem) (d : LogItem) (more : List LogItem) (b : List LogItem) → a ++ d ∷ b ≡ d ∷ more → b ≡ more → a ≡ []
none_before [] d more b is same = refl
none_before (x ∷ xs) d more b is same =
    absurd (let size = sym (length-append (x ∷ xs) (d ∷ b)) ∙ ap (λ (l : List LogItem). length l) is in let size' = ap (λ (l : List LogItem). length l) same in omega (arith, size, size'))

-- the state in which the keeper made the item, and what its log had before
pub record AtItem (cpus : ℕ) (before : List LogItem) (d : LogItem) (g : State) : Type 0 where
  pub m : State
  pub more : List (ℕ × LogItem)
  pub es : List Event
  pub run : Follows m ((0, d) ∷ more) es g
  pub on : Holds m
  pub known : Known cpus before m

pub at_item : (z : Settings) (s : Table ℕ Logged) (log before after_it : List LogItem) (item : LogItem) → (r : RunsAsLogged z s) → IsPrefix log (part 0 r.acts) → log ≡ before ++ item ∷ after_it
    → AtItem z.cpus before item (after (opening z) r.run.events)
at_item z s log before after_it item r known log_is =
    let run = r.run in
    let g = after (opening z) run.events in
    let later : List LogItem = after_it ++ known.0 in
    let h = halve 0 r.acts before (item ∷ later) (sym known.1 ∙ (ap (λ (d : List LogItem). d ++ known.0) log_is ∙ append_assoc before (item ∷ after_it) known.0)) in
    let p = place 0 h.second [] later item h.rest in
    let end : List (ℕ × LogItem) = (0, item) ∷ p.second in
    let first : List (ℕ × LogItem) = h.first ++ p.first in
    let are : r.acts ≡ first ++ end = h.are ∙ (ap (λ (x : List (ℕ × LogItem)). h.first ++ x) p.are ∙ sym (append_assoc h.first p.first end)) in
    let quiet : part 0 p.first ≡ [] = none_before (part 0 p.first) item later (part 0 p.second) (sym (part_append 0 p.first end) ∙ (ap (part 0) (sym p.are) ∙ h.rest)) p.rest in
    let did : part 0 first ≡ before = part_append 0 h.first p.first ∙ ((λ k. h.mine k ++ quiet k) ∙ append-nil before) in
    let k = cut (opening z) first end run.events g (subst (λ (x : List (ℕ × LogItem)). Follows (opening z) x run.events g) are (run_as_logged z s r)) in
    let fit : IsTrue (are_fit z) = subst (λ (a : Settings). IsTrue (are_fit a)) run.settings run.good.holds.fit in
    let own = own_first run.seat g.seated first end (subst (AreByOwn run.seat g.seated) are r.owners) in
    record {
      m = k.between;
      more = p.second;
      es = k.later;
      run = k.since;
      on = follows_holds (opening z) first k.earlier k.between k.before (opening_holds z fit);
      known = subst (λ (d : List LogItem). Known z.cpus d k.between) did
          (walked run.seat g.seated (Known z.cpus) [] (opening z) first k.earlier k.between (known_stays run.seat g.seated z.cpus) k.before (opening_holds z fit) own (known_first z));
    }

pub gone_by : (z : Settings) (s : Table ℕ Logged) (log : List LogItem) (t n : ℕ) → (r : RunsAsLogged z s) → IsPrefix log (part 0 r.acts) → IsFreedFrom t n log
    → specs.IsGone (after (opening z) r.run.events) (without_logs s) t n
gone_by z s log t n r known f =
    let run = r.run in
    let g = after (opening z) run.events in
    let a = at_item z s log f.before f.after f.item r known f.are in
    let freed : Freed a.m g t n = since_freed z.cpus f.before a.m f.item a.more a.es g t n a.run a.on a.known f.detached f.freed in
    gone_of a.m g run.seat (without_logs s) t n run.good run.shows (histories a.m ((0, f.item) ∷ a.more) a.es g a.run a.on) freed

pub freed_is_gone : specs.FreedIsGone
freed_is_gone z s i l t n r at f = let run = running_headline z s r in record { run = run; gone = gone_by z s l.known_log t n run (run.known i l at).0 f }

-- the keeper has the first seat, and its log is all that it did
pub keeper_did : (z : Settings) (s : Table ℕ Logged) (i : ℕ) (l : Logged) (k : KeeperView) → (r : RunsAsLogged z s) → get_elem? s.views i ≡ some l → l.view ≡ Keeper k → l.log ≡ part 0 r.acts
keeper_did z s i l k r at is =
    r.logs i l at (subst IsStanding (sym is) tt) ∙ ap (λ (j : ℕ). part j r.acts) (subst (Sits r.run.seat i) is (r.run.shows.fits i l.view (at_map (λ (d : Logged). d.view) s.views i l at)).0)

pub freed_by_keeper : specs.FreedByKeeper
freed_by_keeper z s i l k t n r at is f =
    let run = running_headline z s r in
    record { run = run; gone = gone_by z s l.log t n run ([], append-nil l.log ∙ keeper_did z s i l k run at is) f }

-- Kept drivers: an interface keeps the driver that its slot kept as it was attached, and that driver has its slot.

-- an attach, or a replacement, gives the next number
abbrev Numbers : State → State → Event → Type 0
Numbers s n (Publish t) = occupant_of n t ≡ Some (suc (length s.history))
Numbers s n (Republish t u) = occupant_of n t ≡ Some (suc (length s.history))
Numbers s n e = Unit {0}

made_numbers : (s n : State) (e : Event) (r : Reply) → Holds s → Made s e n r → Numbers s n e
made_numbers s _ _ _ on (Publishes t e of may) =
    let told = may_publish_tells s t e on.shape may in
    ap number_in (slot_here s.slots t (Live e) told.within) ∙ ap (λ (n : ℕ). Some n) told.number
made_numbers s _ _ _ on (Republishes t u head next e f of at may is) =
    let told = may_republish_tells s t u e f on of at may in
    let swap = told.2.swap in
    let lt : t < length s.slots = omega (arith, told.0, swap.within) in
    let vacant : slot_at s.slots t ≡ Vacant = ap (slot_at s.slots) (sym told.0) ∙ swap.vacant in
    let lu : u < length (set s.slots t (Live e)) = omega (arith, within_live s.slots u f at, length-set s.slots t (Live e)) in
    ⊎_elim
    (λ (here : (t ≡ u) × (slot_at (set (set s.slots t (Live e)) u (Retired f)) t ≡ Retired f)). absurd (let q : Vacant ≡ Live f = sym vacant ∙ (ap (slot_at s.slots) here.0 ∙ at) in cc))
    (λ (off : (t ≡ u → ⊥) × (slot_at (set (set s.slots t (Live e)) u (Retired f)) t ≡ slot_at (set s.slots t (Live e)) t)).
    ap number_in (off.1 ∙ slot_here s.slots t (Live e) lt) ∙ ap (λ (n : ℕ). Some n) swap.number)
    (slot_cases (set s.slots t (Live e)) u (Retired f) t lu)
made_numbers s _ _ _ on _ = tt

-- by either event the slot t has the next number, and keeps what it kept
published_number : (s : State) (e f : Event) (o : Outcome) (t : ℕ) → Holds s → IsPublishing t f → f ≡ by_number s e → step s e ≡ Some o
    → (occupant_of o.state t ≡ Some (suc (length s.history))) × (kept_at o.state.keeps t ≡ kept_at s.keeps t)
published_number s e f o t on (inl same) is by =
    let attach : step s (Publish t) ≡ Some o = ap (step s) (same_event s e (Publish t) (sym same ∙ is) refl) ∙ by in
    (made_numbers s o.state (Publish t) o.reply on (made s (Publish t) o attach), keeps_on t s (Publish t) o on attach)
published_number s e f o t on (inr (u, same)) is by =
    let replace : step s (Republish t u) ≡ Some o = ap (step s) (same_event s e (Republish t u) (sym same ∙ is) refl) ∙ by in
    (made_numbers s o.state (Republish t u) o.reply on (made s (Republish t u) o replace), keeps_on t s (Republish t u) o on replace)

kept_since : (cpus : ℕ) (log : List LogItem) (m : State) (more : List (ℕ × LogItem)) (es : List Event) (g : State) (t n d : ℕ) (f : Event) → IsPublishing t f
    → Follows m ((0, log_item f Done) ∷ more) es g → Holds m → Known cpus log m → n ≡ suc (changes_in log) → keeping t log ≡ Some d → occupant_of g t ≡ Some n → specs.KeepsDriver g t d
kept_since cpus log m more [] g t n d f publishing run on known number keeps is = absurd run
kept_since cpus log m more (e ∷ es) g t n d f publishing run on known number keeps is =
    let o = run.0 in
    let by = published_number m e f o t on publishing (ap (λ (x : LogItem). x.event) run.2) run.1 in
    let has : occupant_of o.state t ≡ Some n = by.0 ∙ ap (λ (k : ℕ). Some (suc k)) known.changes ∙ ap (λ (k : ℕ). Some k) (sym number) in
    let kept : kept_at o.state.keeps t ≡ Some d = by.1 ∙ (known.kept t ∙ keeps) in
    let laws = (obeys_laws o.state (step_holds m o.state e o.reply on run.1)).drivers in
    let stands = laws.stands t d kept in
    let there : occupant_of o.state stands.0 ≡ Some d = number_of (slot_at o.state.slots stands.0) stands.1 stands.2 ∙ ap (λ (k : ℕ). Some k) stands.3 in
    let leads : g ≡ after o.state es = follows_after o.state more es g run.3 in
    let long = laws.throughout es t stands.0 n d has kept there (ap (λ (q : State). occupant_of q t) (sym leads) ∙ is) in
    record {
      kept = ap (λ (q : State). kept_at q.keeps t) leads ∙ long.0;
      slot = stands.0;
      stands = ap (λ (q : State). occupant_of q stands.0) leads ∙ long.1;
    }

keeps_long : (z : Settings) (s : Table ℕ Logged) (i : ℕ) (l : Logged) (t n d : ℕ) → RunsAsLogged z s → get_elem? s.views i ≡ some l → IsAttachedKeeping t n d l.known_log → specs.KeepsAsLong z s t n d
keeps_long z s i l t n d r at f =
    let a = at_item z s l.known_log f.before f.after (log_item f.event Done) r (r.known i l at).0 f.are in
    record { run = r; keeps = λ is. kept_since z.cpus f.before a.m a.more a.es (after (opening z) r.run.events) t n d f.event f.publishing a.run a.on a.known f.number f.keeps is }

pub attached_keeps : specs.AttachedKeeps
attached_keeps z s i l t n d r at f = keeps_long z s i l t n d (running_headline z s r) at f

-- The end of a run: what follows for the last words, from the laws of any table under the rule.

-- a live word is honest, so it isn't the number of an entry without a slot
gone_from : (z : Settings) (g : State) (k : KeeperView) (last : List ℕ) (s : Table ℕ View) (t n : ℕ) → Agrees z last g → KeeperShown g k → specs.IsGone g s t n → specs.IsGoneFrom z g last n
gone_from z g k last s t n words shown gone = record {
  slotless = gone.slotless;
  unheld = gone.unheld;
  unlisted = λ u lt is.
      let here : live_at g.lives u ≡ n = sym (words.at (live_of u) (subst (λ (a : Settings). u < a.slots) (sym words.settings) lt)) ∙ is in
      let some_one : 0 < n = subst (λ (m : ℕ). 0 < m) gone.number (attached_within g.history gone.e gone.attached).0 in
      let live = live_tells n (slot_at g.slots u) (honest_tells n (slot_at g.slots u) some_one (subst (λ (m : ℕ). is_honest m (slot_at g.slots u) ≡ true) here (shown.honest u))) in
      gone.slotless u (ap number_in live.2 ∙ ap (λ (m : ℕ). Some m) live.1);
}

-- by the keeper's own seat, which is the first
ends_run : (z : Settings) (s : Table ℕ Logged) (r : RunsAsLogged z s) (k : KeeperView) → get_elem? (without_logs s).views 0 ≡ some (Keeper k) → specs.EndsRun z k (part 0 r.acts) s.words
ends_run z s r k at =
    let run = r.run in
    let g : State = after (opening z) run.events in
    let log = part 0 r.acts in
    let shown : KeeperShown g k = (run.shows.fits 0 (Keeper k) at).1 in
    record {
      events = run.events;
      acts = r.acts;
      are = r.are;
      all = r.all;
      seat = run.seat;
      owners = r.owners;
      words = run.words;
      holds = run.good.holds;
      modelled = run.modelled;
      laws = run.laws;
      keeper = refl;
      shown = shown;
      gone = λ t n freed. gone_from z g k s.words (without_logs s) t n run.words shown (gone_by z s log t n r ([], append-nil log) freed);
    }

-- what a CPU saw is in the keeper's history
seen_by : (g : State) (x : CpuView) (k : KeeperView) → CpuShown g x → KeeperShown g k → IsPrefix x.pass k.history
seen_by g x k cpu keeper =
    let history : k.history ≡ g.history = ap (λ (v : KeeperView). v.history) keeper.is in
    let pass : x.pass ≡ take (seen_at g x.id) g.history = ap (λ (v : CpuView). v.pass) cpu.is in
    subst (IsPrefix x.pass) (sym history) (subst (λ (h : List Change). IsPrefix h g.history) (sym pass) (taken_is_prefix (seen_at g x.id) g.history))

ends_run_for : (z : Settings) (x : CpuView) (s : Table ℕ Logged) (i : ℕ) (l : Logged) → (r : RunsAsLogged z s) → get_elem? s.views i ≡ some l → l.view ≡ Cpu x → specs.EndsRunFor z x l.log l.known_log s.words
unfolding ends_run
ends_run_for z x s i l r at is =
    let run = r.run in
    let g : State = after (opening z) run.events in
    let its = run.shows.fits i l.view (at_map (λ (d : Logged). d.view) s.views i l at) in
    let shown : CpuShown g x = subst (Shown g) is its.1 in
    let sits : i ≡ run.seat x.id = subst (Sits run.seat i) is its.0 in
    let k = run.shows.each.keeper in
    record {
      keeper = k.0;
      keeper_log = part 0 r.acts;
      run = ends_run z s r k.0 k.1;
      own = ap (λ (j : ℕ). part j r.acts) (sym sits) ∙ sym (r.logs i l at (subst IsStanding (sym is) tt));
      shown = shown;
      known = (r.known i l at).0;
      seen = seen_by g x k.0 shown (run.shows.fits 0 (Keeper k.0) k.1).1;
    }

pub ended_runs : specs.EndedRuns
ended_runs z x log known_log last end =
    let run = ends_run_for z x end.table end.place end.seat (running_headline z end.table end.ruled) end.at end.view in
    subst (λ (l : List ℕ). specs.EndsRunFor z x log known_log l) end.words
    (subst (λ (d : List LogItem). specs.EndsRunFor z x log d end.table.words) end.knows (subst (λ (d : List LogItem). specs.EndsRunFor z x d end.seat.known_log end.table.words) end.did run))

-- the same of a run that the keeper's seat ended, with the CPUs' seats that it took over

-- a CPU's seat, by its place
whole_in : (z : Settings) (s : Table ℕ Logged) (r : RunsAsLogged z s) (k : KeeperView) (first : get_elem? (without_logs s).views 0 ≡ some (Keeper k)) (i : ℕ) (l : Logged) (x : CpuView)
    → get_elem? s.views i ≡ some l → l.view ≡ Cpu x → specs.IsWholeIn (ends_run z s r k first) x l.log l.known_log
unfolding ends_run
whole_in z s r k first i l x at is =
    let run = r.run in
    let its = run.shows.fits i l.view (at_map (λ (d : Logged). d.view) s.views i l at) in
    let shown : CpuShown (after (opening z) run.events) x = subst (Shown (after (opening z) run.events)) is its.1 in
    let sits : i ≡ run.seat x.id = subst (Sits run.seat i) is its.0 in
    let own : part (run.seat x.id) r.acts ≡ l.log = ap (λ (j : ℕ). part j r.acts) (sym sits) ∙ sym (r.logs i l at (subst IsStanding (sym is) tt)) in
    record {
      own = own;
      shown = shown;
      known = (r.known i l at).0;
      seen = seen_by (after (opening z) run.events) x k shown (run.shows.fits 0 (Keeper k) first).1;
      references = λ n. subst (λ (d : List LogItem). Held.passive_by n d ≡ references_to n x.references) own (has_references z s r x shown n);
    }

whole_in_as : (z : Settings) (s : Table ℕ Logged) (r : RunsAsLogged z s) (k : KeeperView) (first : get_elem? (without_logs s).views 0 ≡ some (Keeper k)) (e : EndedSeat) (x : CpuView)
    (did known_log : List LogItem) → IsStillThere s.views e → e ≡ specs.cpu_end x did known_log → specs.IsWholeIn (ends_run z s r k first) x did known_log
whole_in_as z s r k first e x did known_log there is =
    let same : end_of there.seat ≡ specs.cpu_end x did known_log = there.is ∙ is in
    let whole = whole_in z s r k first there.place there.seat x there.at (ap (λ (d : EndedSeat). d.view) same) in
    subst (λ (p : List LogItem × List LogItem). specs.IsWholeIn (ends_run z s r k first) x p.0 p.1) (λ n. (ap (λ (d : EndedSeat). d.log) same n, ap (λ (d : EndedSeat). d.known_log) same n)) whole

-- its list frees no entry that a CPU holds
held_in : (z : Settings) (s : Table ℕ Logged) (r : RunsAsLogged z s) (k : KeeperView) (first : get_elem? (without_logs s).views 0 ≡ some (Keeper k))
    → Held.FreesNoneHeld (ends_run z s r k first).seat (after (opening z) (ends_run z s r k first).events).seated (ends_run z s r k first).acts
unfolding ends_run
held_in z s r k first = frees_none_held z s r

-- nor one that there is a local reference to
locals_in : (z : Settings) (s : Table ℕ Logged) (r : RunsAsLogged z s) (k : KeeperView) (first : get_elem? (without_logs s).views 0 ≡ some (Keeper k))
    → Held.FreesNoLocals (ends_run z s r k first).seat (after (opening z) (ends_run z s r k first).events).seated (ends_run z s r k first).acts
unfolding ends_run
locals_in z s r k first = frees_no_locals z s r

exact_in : (z : Settings) (s : Table ℕ Logged) (r : RunsAsLogged z s) (k : KeeperView) (first : get_elem? (without_logs s).views 0 ≡ some (Keeper k))
    → Held.CountExactly z (ends_run z s r k first).events (ends_run z s r k first).seat (ends_run z s r k first).acts
unfolding ends_run
exact_in z s r k first = counts_exactly z s r

ends_for_all : (z : Settings) (s : Table ℕ Logged) (ruled : LoggedRuled z s) (k : KeeperView) (i : ℕ) (l : Logged) → get_elem? s.views i ≡ some l → l.view ≡ Keeper k → specs.EndsRunForAll z k l.log l.ends s.words
ends_for_all z s ruled k i l at is =
    let r = running_headline z s ruled in
    let seen : get_elem? (without_logs s).views i ≡ some (Keeper k) = at_map (λ (d : Logged). d.view) s.views i l at ∙ ap some is in
    let zero_is : i ≡ 0 = (r.run.shows.fits i (Keeper k) seen).0 in
    let first : get_elem? (without_logs s).views 0 ≡ some (Keeper k) = ap (get_elem? (without_logs s).views) (sym zero_is) ∙ seen in
    let log : part 0 r.acts ≡ l.log = ap (λ (j : ℕ). part j r.acts) (sym zero_is) ∙ sym (r.logs i l at (subst IsStanding (sym is) tt)) in
    subst (λ (d : List LogItem). specs.EndsRunForAll z k d l.ends s.words) log (record {
      run = ends_run z s r k first;
      each = λ n x did known_log taken. whole_in_as z s r k first (specs.cpu_end x did known_log) x did known_log (ruled.ends i l at n (specs.cpu_end x did known_log) taken) refl;
      held = held_in z s r k first;
      locals = locals_in z s r k first;
      exact = exact_in z s r k first;
    })

pub ended_runs_for_all : specs.EndedRunsForAll
ended_runs_for_all z k log ends last end =
    let all = ends_for_all z end.table end.ruled k end.place end.seat end.at end.view in
    subst (λ (l : List ℕ). specs.EndsRunForAll z k log ends l) end.words
    (subst (λ (p : List LogItem × List EndedSeat). specs.EndsRunForAll z k p.0 p.1 end.table.words) (λ n. (end.did n, end.took n)) all)
