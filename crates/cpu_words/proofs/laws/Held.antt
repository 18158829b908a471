-- No entry is freed while a CPU's section holds it: what it found inside stays held, until it leaves, and a slot is freed only where nothing holds its entry.
use Rattle.std.proofs.Common.{◌≡◌, ◌≢◌, ◌⊎◌, inl, inr, ⊎_elim, ℕ, zero, suc, ◌<◌, ◌≤◌, Bool, true, false, List, [], ◌∷◌, ◌++◌, length, Option, Some, None, IsSome, IsTrue, get_or-set_same, get_or-set_other, take, refl, sym, ap, ◌∙◌, subst, arith}
use Rattle.std.proofs.lemmas.Bool.{and_parts, cases_eq, cases_lt}
use Rattle.std.proofs.lemmas.Option.{none-some, same_Some}
use mathlib.Core.Option.{some-injective}
use lib.ListN.{get_elem?}
use Rattle.atomic_table.specs.Table.{State as Table}
use Rattle.cpu_words.specs.Types.{Entry, Change, Settings, Empty, Event, Exit, Refind, LoadRecord, Vacate, KeptSub, Reply, Found, Ref, Retired}
use Rattle.registry_values.specs.Common.{are_fit, slot_at, slot_of}
use Rattle.protocol.specs.Common.{MayHold, State, opening, begin_at, found_at, Holds, Outcome, step, state_after, IsUnheld, Model, passive_in, picture, search_over, after_refind, after, destroyed_slot, ended_by}
use Rattle.protocol.proofs.Made.{Made, Enters, Exits, LoadsLast, Refinds, made}
use Rattle.protocol.proofs.History.{at_prefix}
use Rattle.protocol.proofs.keeps.Keeping.{opening_holds, step_holds}
use Rattle.protocol.proofs.keeps.MarkKeeps.{is_drained_tells}
use Rattle.protocol.proofs.keeps.SectionKeeps.{none_from, refind_tells}
use Rattle.protocol.proofs.runs.Headline.{obeys_laws}
use Rattle.protocol.specs.declared.event.RecordOf.TheVariants.{Search as OfSearch}
use Rattle.protocol.proofs.runs.Reuse.{destroyed_drained}
use Rattle.protocol.proofs.Occupied.{attached_in, slot_found, slot_has}
use Rattle.protocol.proofs.Cells.{get_or_all}
use Rattle.protocol.proofs.model.Refining.{opening_pictured}
use Rattle.protocol.proofs.model.RefiningReferences.{passives_of}
use Rattle.cpu_words.specs.Common.{LogItem, Logged, RunsAsLogged, AreByOwn, IsSeatOf, maker, the_cpu, by_number, part, without_logs, HasNone, CountExactly, Finds, FreesNoLocals, FreesNoneHeld, HasFoundInside, is_exit, no_entry, occupant, occupant_of, passive_by, references_to, reply_without_id, Cpu, CpuShown, CpuView, View, cpu_of}
use Rattle.cpu_words.proofs.logs.Loads.{run_as_logged, is_whole, same_event, place, part_same, part_off}
use Rattle.cpu_words.proofs.logs.Known.{Known, known_stays, known_first}
use Rattle.cpu_words.proofs.logs.Runs.{Follows, follows_after, follows_holds, cut, walked}
use Rattle.cpu_words.proofs.laws.Fresh.{own_last}
use Rattle.cpu_words.proofs.laws.Passing.{counted_along, tried_in}
use Rattle.cpu_words.proofs.laws.Counting.{counted_together, unheld_has_none}
use Rattle.cpu_words.proofs.laws.Waiting.{own_first}
use Rattle.cpu_words.proofs.shown.Seeing.{attached_prefix, tries}

-- One event

-- the open section of c may hold e
record IsHeldIn (c : ℕ) (e : Entry) (s : State) : Type 0 where
  begin : ℕ
  open_since : begin_at s c ≡ Some begin
  may : MayHold s.history begin e

-- more changes leave what a section holds
hold_longer : (h more : List Change) (b : ℕ) (e : Entry) → b ≤ length h → MayHold h b e → MayHold (h ++ more) b e
hold_longer h more b e le may = record {
  attached = attached_prefix h (h ++ more) e (more, refl) may.attached;
  unended = λ p ends. ⊎_elim
      (λ (past : length h < p). omega (arith, past, le))
      (λ (within : p ≤ length h). may.unended p (ap ended_by (sym (at_prefix h more p within)) ∙ ends))
      (cases_lt (length h) p);
}

-- each event leaves an open section of c, except its exit
stays_open : (s n : State) (c b : ℕ) (e : Event) (r : Reply) → Made s e n r → begin_at s c ≡ Some b → (begin_at n c ≡ begin_at s c) ⊎ (e ≡ Exit c)
stays_open s _ c b _ _ (Enters j may) in_ = grind (arith, and_parts, none-some, none_from, get_or-set_other, cases_eq c j)
stays_open s _ c b _ _ (Exits j may) in_ = grind (arith, get_or-set_other, cases_eq c j)
stays_open s _ c b _ _ _ in_ = inl refl

held_on : (s : State) (c : ℕ) (e : Entry) (event : Event) (o : Outcome) → Holds s → step s event ≡ Some o → (event ≡ Exit c → ⊥) → IsHeldIn c e s → IsHeldIn c e o.state
held_on s c e event o on is stays had =
    let grows = (obeys_laws s on).answers.history event in
    let history : o.state.history ≡ s.history ++ grows.0 = subst (λ (p : Option Outcome). (state_after s p).history ≡ s.history ++ grows.0) is grows.1 in
    let begun : had.begin ≤ length s.history = omega (arith, on.sections.begun c had.begin had.open_since, on.sections.prefix c) in
    record {
      begin = had.begin;
      open_since = ⊎_elim (λ (same : begin_at o.state c ≡ begin_at s c). same ∙ had.open_since) (λ (exit : event ≡ Exit c). absurd (stays exit))
          (stays_open s o.state c had.begin event o.reply (made s event o is) had.open_since);
      may = subst (λ (h : List Change). MayHold h had.begin e) (sym history) (hold_longer s.history grows.0 had.begin e begun had.may);
    }

-- a load that found e is a CPU's, whose section holds e then

abbrev is_found : Reply → Bool
is_found (Found e) = true
is_found r = false

abbrev entry_of : Reply → Entry
entry_of (Found e) = e
entry_of r = no_entry

record HasFoundNow (s n : State) (event : Event) (k : ℕ) : Type 0 where
  cpu : ℕ
  entry : Entry
  number : entry.number ≡ k
  makes : maker (by_number s event) ≡ the_cpu cpu
  held : IsHeldIn cpu entry n

-- the entry that a CPU found last
found_last : (s n : State) (event : Event) (k c : ℕ) (e : Entry) → Holds n → e.number ≡ k → maker (by_number s event) ≡ the_cpu c → found_at n c ≡ Some e → HasFoundNow s n event k
found_last s n event k c e on number makes here =
    let held = on.last_found c e here in
    record { cpu = c; entry = e; number = number; makes = makes; held = record { begin = held.0; open_since = held.1; may = held.2 } }

found_is : (s n : State) (event : Event) (r : Reply) (e : Entry) → Holds s → Holds n → Made s event n r → r ≡ Found e → HasFoundNow s n event e.number
found_is s _ _ _ e on later (LoadsLast c q f at loads) same =
    let seated : c < s.seated = ⊎_elim (λ (lt : c < s.seated). lt) (λ (out : s.seated ≤ c). absurd (none-some q (sym (on.seats.unsearching c out) ∙ at))) (cases_lt c s.seated) in
    found_last s (search_over s c (Some f)) (LoadRecord (OfSearch c)) e.number c f later (ap (λ (x : Entry). x.number) (ap entry_of same)) refl
    (get_or-set_same s.found c (Some f) None (omega (arith, seated, on.seats.within, on.shape.found)))
found_is s _ _ _ e on later _ same = absurd (let q : ◌≡◌ {A = Bool} false true = ap is_found same in cc)

-- again, by memory

abbrev number_again : Event → Option ℕ
number_again (Refind c t n) = Some n
number_again e = None

refound_is : (s n : State) (event : Event) (r : Reply) (k : ℕ) → Holds s → Holds n → Made s event n r → number_again event ≡ Some k → HasFoundNow s n event k
refound_is s _ _ _ k on later (Refinds c t n e at may) same =
    let told = refind_tells s c t n e may in
    let lt = told.0 in
    found_last s (after_refind s c e) (Refind c t n) k c e later (told.3 ∙ same_Some n k same) refl (get_or-set_same s.found c (Some e) None (omega (arith, lt, on.seats.within, on.shape.found)))
refound_is s _ _ _ k on later _ same = absurd (none-some k same)

replied_found : (r : Reply) (e : Entry) → reply_without_id r ≡ Found e → r ≡ Found e
replied_found (Ref id) e is = absurd (let q : ◌≡◌ {A = Bool} false true = ap is_found is in cc)
replied_found r e is = is

found_now : (s : State) (event : Event) (o : Outcome) (d : LogItem) (k : ℕ) → Holds s → step s event ≡ Some o → d.event ≡ by_number s event → d.reply ≡ reply_without_id o.reply → Finds k d
    → HasFoundNow s o.state event k
found_now s event o d k on is same reply (inl (e, found, number)) =
    subst (HasFoundNow s o.state event) number
    (found_is s o.state event o.reply e on (step_holds s o.state event o.reply on is) (made s event o is) (replied_found o.reply e (sym reply ∙ found)))
found_now s event o d k on is same reply (inr (c, t, again)) =
    let its : Refind c t k ≡ event = same_event s event (Refind c t k) (sym again ∙ same) refl in
    refound_is s o.state event o.reply k on (step_holds s o.state event o.reply on is) (made s event o is) (ap number_again (sym its))

-- A run

exits_by : (s : State) (c : ℕ) (e : Event) → e ≡ Exit c → is_exit (by_number s e) ≡ true
exits_by s c e is = ap (λ (f : Event). is_exit (by_number s f)) is

-- without an exit of c what its section holds stays held
held_along : (seat : ℕ → ℕ) (n c : ℕ) (e : Entry) (s : State) (acts : List (ℕ × LogItem)) (es : List Event) (t : State) → Follows s acts es t → Holds s → AreByOwn seat n acts
    → HasNone is_exit (part (seat c) acts) → IsHeldIn c e s → IsHeldIn c e t
held_along seat n c e s [] [] t is on own none had = subst (IsHeldIn c e) (sym is) had
held_along seat n c e s [] (x ∷ es) t run on own none had = absurd run
held_along seat n c e s (a ∷ more) [] t run on own none had = absurd run
held_along seat n c e s (a ∷ more) (x ∷ es) t run on own none had =
    let o = run.0 in
    let i = seat c in
    let event : a.1.event ≡ by_number s x = ap (λ (d : LogItem). d.event) run.2 in
    let holds : Holds o.state = step_holds s o.state x o.reply on run.1 in
    ⊎_elim
    (λ (same : a.0 ≡ i).
    let nones = subst (HasNone is_exit) (part_same i a more same) none in
    held_along seat n c e o.state more es t run.3 holds own.1 nones.1
    (held_on s c e x o on run.1 (λ exit. let q : ◌≡◌ {A = Bool} false true = sym nones.0 ∙ (ap is_exit event ∙ exits_by s c x exit) in cc) had))
    (λ (off : a.0 ≢ i). held_along seat n c e o.state more es t run.3 holds own.1 (subst (HasNone is_exit) (part_off i a more off) none)
    (held_on s c e x o on run.1 (λ exit. off (subst (IsSeatOf seat n a.0) (ap maker event ∙ ap (λ (f : Event). maker (by_number s f)) exit) own.0).0) had))
    (cases_eq a.0 i)

-- what an event of c found is held as long as c hasn't left
record IsHeld (c k : ℕ) (t : State) : Type 0 where
  entry : Entry
  number : entry.number ≡ k
  held : IsHeldIn c entry t

held_since : (seat : ℕ → ℕ) (n c k : ℕ) (item : LogItem) (s : State) (more : List (ℕ × LogItem)) (es : List Event) (t : State) → Follows s ((seat c, item) ∷ more) es t → Holds s
    → AreByOwn seat n ((seat c, item) ∷ more) → ((d : ℕ) → d < n → seat c ≡ seat d → d ≡ c) → Finds k item → HasNone is_exit (part (seat c) more) → IsHeld c k t
held_since seat n c k item s more [] t run on own only found none = absurd run
held_since seat n c k item s more (x ∷ es) t run on own only found none =
    let o = run.0 in
    let event : item.event ≡ by_number s x = ap (λ (d : LogItem). d.event) run.2 in
    let now = found_now s x o item k on run.1 event (ap (λ (d : LogItem). d.reply) run.2) found in
    let its = subst (IsSeatOf seat n (seat c)) (ap maker event ∙ now.makes) own.0 in
    record {
      entry = now.entry;
      number = now.number;
      held = held_along seat n c now.entry o.state more es t run.3 (step_holds s o.state x o.reply on run.1) own.1 none
          (subst (λ (d : ℕ). IsHeldIn d now.entry o.state) (only now.cpu its.1 its.0) now.held);
    }

held_inside : (seat : ℕ → ℕ) (n c k : ℕ) (s : State) (acts : List (ℕ × LogItem)) (es : List Event) (t : State) → Follows s acts es t → Holds s → AreByOwn seat n acts
    → ((d : ℕ) → d < n → seat c ≡ seat d → d ≡ c) → HasFoundInside k (part (seat c) acts) → IsHeld c k t
held_inside seat n c k s acts es t run on own only inside =
    let p = place (seat c) acts inside.before inside.since inside.item inside.are in
    let x = cut s p.first ((seat c, inside.item) ∷ p.second) es t (subst (λ (l : List (ℕ × LogItem)). Follows s l es t) p.are run) in
    held_since seat n c k inside.item x.between p.second x.later t x.since (follows_holds s p.first x.earlier x.between x.before on)
    (own_last seat n p.first ((seat c, inside.item) ∷ p.second) (subst (AreByOwn seat n) p.are own)) only inside.found (subst (HasNone is_exit) (sym p.rest) inside.inside)

-- a slot is freed only where nothing holds its entry

pub whole : (f : Event) (t : ℕ) → destroyed_slot f ≡ Some t → is_whole f ≡ true
whole (Vacate u) t of = refl
whole (KeptSub u) t of = refl
whole f t of = absurd (none-some t of)

unheld_at : (cpus : ℕ) (log : List LogItem) (m : State) (freed : ℕ × LogItem) (more : List (ℕ × LogItem)) (es : List Event) (g : State) (t n : ℕ) → Follows m (freed ∷ more) es g → Holds m
    → Known cpus log m → destroyed_slot freed.1.event ≡ Some t → occupant t log ≡ Some n → IsUnheld (picture m) n
unheld_at cpus log m freed more [] g t n run on known of has = absurd run
unheld_at cpus log m freed more (x ∷ es) g t n run on known of has =
    let its : destroyed_slot x ≡ Some t = ap destroyed_slot (sym (same_event m x freed.1.event (ap (λ (d : LogItem). d.event) run.2) (whole freed.1.event t of))) ∙ of in
    let allowed : IsSome (step m x) = subst (λ (p : Option Outcome). IsSome p) (sym run.1) refl in
    let told = is_drained_tells m t on (destroyed_drained m x t its allowed) in
    let f : Entry = told.1.0 in
    let here : slot_at m.slots t ≡ Retired f = told.1.1 in
    let there = attached_in m.history m.slots t f on.slots (inr here) in
    let unheld : IsUnheld (picture m) f.number = (obeys_laws m on).safe.destroyed x f (its ∙ ap (λ (u : ℕ). Some u) (sym there.1)) allowed there.0 in
    let number : f.number ≡ n = same_Some f.number n (sym (known.counts.occupants t ∙ ap occupant_of here) ∙ has) in
    subst (λ (j : ℕ). IsUnheld (picture m) j) number unheld

-- a CPU's log counts its passive references
counts_by : (seat : ℕ → ℕ) (cpus : ℕ) (z : Settings) (c n : ℕ) (acts : List (ℕ × LogItem)) (es : List Event) (t : State) → Follows (opening z) acts es t → IsTrue (are_fit z) → AreByOwn seat cpus acts
    → ((d : ℕ) → d < cpus → seat c ≡ seat d → d ≡ c) → passive_by n (part (seat c) acts) ≡ passives_of t c n
counts_by seat cpus z c n acts es t run fit own only = counted_along seat cpus c n None 0 (opening z) acts es t run (opening_holds z fit) own only
    (sym (ap tried_in (get_or_all z.cpus Empty c)))
    (sym (ap (λ (m : Model). m.passive c n) (opening_pictured z)))

fits : (z : Settings) (s : Table ℕ Logged) → RunsAsLogged z s → IsTrue (are_fit z)
fits z s r = subst (λ (a : Settings). IsTrue (are_fit a)) r.run.settings r.run.good.holds.fit

-- no two CPUs have one seat
one_cpu : (z : Settings) (s : Table ℕ Logged) (r : RunsAsLogged z s) (c : ℕ) → c < (after (opening z) r.run.events).seated → (d : ℕ) → d < (after (opening z) r.run.events).seated
    → r.run.seat c ≡ r.run.seat d → d ≡ c
one_cpu z s r c below d lt same =
    let v = r.run.shows.each.cpus c below in
    let w = r.run.shows.each.cpus d lt in
    let views : Cpu v.0 ≡ Cpu w.0 = some-injective _ _ (sym v.1 ∙ (ap (get_elem? (without_logs s).views) same ∙ w.1)) in
    sym w.2 ∙ (ap (λ (x : View). (cpu_of x).id) (sym views) ∙ v.2)

-- the run as far as an event that frees the slot t, whose entry is n by the keeper's log until then
record IsFreeing (seat : ℕ → ℕ) (cpus : ℕ) (z : Settings) (first : List (ℕ × LogItem)) (n : ℕ) : Type 0 where
  events : List Event
  at : State
  run : Follows (opening z) first events at
  own : AreByOwn seat cpus first
  unheld : IsUnheld (picture at) n

freeing : (z : Settings) (s : Table ℕ Logged) (r : RunsAsLogged z s) (first rest : List (ℕ × LogItem)) (freed : ℕ × LogItem) (t n : ℕ) → r.acts ≡ first ++ freed ∷ rest
    → destroyed_slot freed.1.event ≡ Some t → occupant t (part 0 first) ≡ Some n → IsFreeing r.run.seat (after (opening z) r.run.events).seated z first n
freeing z s r first rest freed t n are of has =
    let run = r.run in
    let g : State = after (opening z) run.events in
    let begin = opening_holds z (fits z s r) in
    let k = cut (opening z) first (freed ∷ rest) run.events g (subst (λ (x : List (ℕ × LogItem)). Follows (opening z) x run.events g) are (run_as_logged z s r)) in
    let on : Holds k.between = follows_holds (opening z) first k.earlier k.between k.before begin in
    let own = own_first run.seat g.seated first (freed ∷ rest) (subst (AreByOwn run.seat g.seated) are r.owners) in
    let known : Known z.cpus (part 0 first) k.between =
    walked run.seat g.seated (Known z.cpus) [] (opening z) first k.earlier k.between (known_stays run.seat g.seated z.cpus) k.before begin own (known_first z) in
    record {
      events = k.earlier;
      at = k.between;
      run = k.before;
      own = own;
      unheld = unheld_at z.cpus (part 0 first) k.between freed rest k.later g t n k.since on known of has;
    }

pub frees_none_held : (z : Settings) (s : Table ℕ Logged) (r : RunsAsLogged z s) → FreesNoneHeld r.run.seat (after (opening z) r.run.events).seated r.acts
frees_none_held z s r c below first rest freed t n are of has holds =
    let seat = r.run.seat in
    let cpus = (after (opening z) r.run.events).seated in
    let fit = fits z s r in
    let k = freeing z s r first rest freed t n are of has in
    ⊎_elim
    (λ (inside : HasFoundInside n (part (seat c) first)).
    let held = held_inside seat cpus c n (opening z) first k.events k.at k.run (opening_holds z fit) k.own (one_cpu z s r c below) inside in
    k.unheld.sections c held.held.begin held.entry held.held.open_since held.held.may held.number)
    (λ (some_one : 0 < passive_by n (part (seat c) first)).
    let none : passives_of k.at c n ≡ 0 = k.unheld.passive c in
    let counted = counts_by seat cpus z c n first k.events k.at k.run fit k.own (one_cpu z s r c below) in
    omega (arith, none, counted, some_one))
    holds

pub frees_no_locals : (z : Settings) (s : Table ℕ Logged) (r : RunsAsLogged z s) → FreesNoLocals r.run.seat (after (opening z) r.run.events).seated r.acts
frees_no_locals z s r first rest freed t n are of has =
    let k = freeing z s r first rest freed t n are of has in
    omega (
      arith,
      counted_together r.run.seat (after (opening z) r.run.events).seated n z first k.events k.at k.run (opening_holds z (fits z s r)) k.own (λ c low. one_cpu z s r c low) (known_first z),
      unheld_has_none k.at n k.unheld,
    )

-- What the logs count is what there is, after each number of events

first_acts : (s : State) (acts : List (ℕ × LogItem)) (es : List Event) (t : State) → Follows s acts es t → (i : ℕ) → Follows s (take i acts) (take i es) (after s (take i es))
first_acts s acts es t run i = let part_of = begun s acts es t run i in subst (Follows s (take i acts) (take i es)) (follows_after s (take i acts) (take i es) part_of.0 part_of.1) part_of.1
  where
    begun : (s : State) (acts : List (ℕ × LogItem)) (es : List Event) (t : State) → Follows s acts es t → (i : ℕ) → (u : State) × Follows s (take i acts) (take i es) u
    begun s acts es t run zero = (s, refl)
    begun s [] [] t run (suc i) = (s, refl)
    begun s [] (e ∷ es) t run (suc i) = absurd run
    begun s (a ∷ more) [] t run (suc i) = absurd run
    begun s (a ∷ more) (e ∷ es) t run (suc i) = let later = begun run.0.state more es t run.3 i in (later.0, (run.0, run.1, run.2, later.1))

first_own : (seat : ℕ → ℕ) (n i : ℕ) (acts : List (ℕ × LogItem)) → AreByOwn seat n acts → AreByOwn seat n (take i acts)
first_own seat n zero acts own = tt
first_own seat n (suc i) [] own = tt
first_own seat n (suc i) (a ∷ more) own = (own.0, first_own seat n i more own.1)

pub counts_exactly : (z : Settings) (s : Table ℕ Logged) (r : RunsAsLogged z s) → CountExactly z r.run.events r.run.seat r.acts
counts_exactly z s r =
    let seat = r.run.seat in
    let cpus = (after (opening z) r.run.events).seated in
    let fit = fits z s r in
    let run : (i : ℕ) → Follows (opening z) (take i r.acts) (take i r.run.events) (after (opening z) (take i r.run.events)) =
    λ i. first_acts (opening z) r.acts r.run.events (after (opening z) r.run.events) (run_as_logged z s r) i in
    let own : (i : ℕ) → AreByOwn seat cpus (take i r.acts) = λ i. first_own seat cpus i r.acts r.owners in
    record {
      passive = λ i c n below. counts_by seat cpus z c n (take i r.acts) (take i r.run.events) (after (opening z) (take i r.run.events)) (run i) fit (own i) (one_cpu z s r c below);
      locals = λ i n. counted_together seat cpus n z (take i r.acts) (take i r.run.events) (after (opening z) (take i r.run.events)) (run i) (opening_holds z fit) (own i)
          (λ c low. one_cpu z s r c low) (known_first z);
    }

-- Passive references by a log are those of the view

pub has_references : (z : Settings) (s : Table ℕ Logged) (r : RunsAsLogged z s) (x : CpuView) → CpuShown (after (opening z) r.run.events) x → (n : ℕ)
    → passive_by n (part (r.run.seat x.id) r.acts) ≡ references_to n x.references
has_references z s r x shown n =
    let run = r.run in
    let g : State = after (opening z) run.events in
    counts_by run.seat g.seated z x.id n r.acts run.events g (run_as_logged z s r) (fits z s r) r.owners (one_cpu z s r x.id shown.seated) ∙ in_view g (slot_of g.slots n) refl shown
  where
    in_view : (g : State) (o : Option ℕ) → slot_of g.slots n ≡ o → CpuShown g x → passive_in g.passive g.hands x.id o ≡ references_to n x.references
    in_view g None none shown = sym (shown.gone n (λ is. let found = slot_found g.slots n is in none-some found.0 (sym none ∙ found.1)))
    in_view g (Some t) at shown =
        let has = slot_has g.slots n t at in
        let word = shown.passive t has.1.0 has.1.1 in
        let tried = tries g x t shown in
        let same : references_to has.1.0.number x.references ≡ references_to n x.references = ap (λ (m : ℕ). references_to m x.references) has.1.2 in
        omega (arith, word, tried, same)
