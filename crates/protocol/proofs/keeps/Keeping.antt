-- Each event keeps the core invariant.
use Rattle.std.proofs.Common.{◌≡◌, ℕ, ◌-◌, inr, List, [], ◌∷◌, length-set, get_or, set, replicate, take, Option, Some, true, ◌==◌, IsTrue, refl, subst, sym, ◌∙◌, arith, ltb-true}
use Rattle.std.specs.Prelude.{is_none, nat_lt}
use Rattle.std.specs.List.{list_all}
use Rattle.std.proofs.lemmas.Bool.{and_parts, eqb-true}
use Rattle.protocol.proofs.Made.{Made, made, each_event, Seats, Enters, Exits, Seeks, LoadsEnd, LoadsSlot, LoadsWord, LoadsLast, Hears, AddsPassive, SubsPassive, Counts, Splits, Joins, CountsDown, FindsCollected, SplitsBack, Recalls, RecallsHead, Refinds, Tries, ConfirmsTry, TakesBack}
use Rattle.protocol.proofs.Made.{StoresRow, StoresCount, StoresLink, Publishes, Unpublishes, Republishes, Snaps, Looks, LooksPassive, Collects, AddsTotal, JoinsKeeper, SubsTotal, KeepsDriver, SubsKept, Vacates, Shows, Hides}
use Rattle.protocol.proofs.counts.Bounds.{bias_at, none_held_at_bias}
use Rattle.protocol.proofs.keeps.CountKeeps.{collect_keeps, count_add_keeps, count_down_keeps, count_store_keeps, collected_keeps, fit_of, join_keeper_keeps, join_keeps, keep_keeps, only_slot, split_back_keeps, confirm_keeps, split_keeps, take_back_keeps, total_add_keeps, total_sub_keeps, try_keeps}
use Rattle.protocol.proofs.counts.Counts as C
use Rattle.protocol.proofs.keeps.Drivers.{drivers_kept_sub, drivers_opening, drivers_publish, drivers_unpublish, drivers_vacate, kept_found}
use Rattle.registry_values.proofs.Fit.{ranges}
use Rattle.protocol.proofs.counts.Sums.{published_held}
use Rattle.protocol.proofs.keeps.ListKeeps as L
use Rattle.protocol.proofs.keeps.MarkKeeps as M
use Rattle.protocol.proofs.keeps.Replacing as R
use Rattle.protocol.specs.Common.{after_republish, may_republish, with_replaced}
use Rattle.protocol.proofs.Occupied.{in_within, at_rest_tells}
use Rattle.protocol.proofs.keeps.References.{references_opening, references_publish, references_snapshot, references_unpublish, references_vacate, standing_tells, snapshot_due_tells}
use Rattle.protocol.proofs.keeps.SearchKeeps.{link_keeps, record_keeps, seek_keeps}
use Rattle.protocol.proofs.keeps.SectionKeeps.{enter_keeps, exit_keeps, hear_keeps, recall_head_keeps, recall_keeps, refind_keeps, seat_keeps}
use Rattle.protocol.specs.Common.{Outcome, count_at, Holds, held_at, Run, run_of_events, run_with_event, at_rest, State, kept_at, local_at, mark_at, opening, passive_at, row_at, section_at, total_at, Keeps, Event, Reply, Snapshots}
use Rattle.protocol.specs.Events
use Rattle.registry_values.specs.Common.{mark_after_passive_look, mark_after_look, slot_of, slot_at, are_fit, bias}
use Rattle.protocol.specs.Types.{Entry, MOST_CPUS, Settings, Slot, Live, Retired}

-- The list

pub publish_keeps : (s : State) (t : ℕ) (e : Entry) → Holds s → Events.entry_of t (row_at s.rows t) ≡ Some e → Events.may_publish s t e ≡ true → Holds (Events.after_publish s t e)
publish_keeps s t e on is may =
    let told = L.may_publish_tells s t e on.shape may in
    let unused = and_parts (list_all Events.is_bias (take s.settings.cpus (get_or s.counts t []))) (total_at s.totals t == bias) told.unused in
    let none : held_at s.locals s.hands s.keeps s.due e.number t ≡ 0 =
    published_held s.history s.settings.cpus s.slots s.hands s.keeps s.due s.locals e.number t on.slots (omega (arith, told.number)) told.rest on.references on.kept_drivers in
    L.publish_keeps s t e on is may
    (C.publish on.balance (fit_of s on) t e told.within told.vacant told.rest (λ c lt. bias_at (fit_of s on) t c told.within lt unused.0) none)
    (references_publish on.references t e told.within told.vacant)
    (drivers_publish s.slots s.keeps t e told.within told.vacant told.rightly on.kept_drivers)

pub unpublish_keeps : (s : State) (t : ℕ) (e : Entry) → Holds s → slot_at s.slots t ≡ Live e → at_rest s.due ≡ true → Holds (Events.after_unpublish s t e)
unpublish_keeps s t e on is rest = L.unpublish_keeps s t e on is rest
    (C.unpublish on.balance (fit_of s on) t e (at_rest_tells s.due rest) is)
    (references_unpublish on.references t e (ranges s.settings on.fit).some_cpu is)
    (drivers_unpublish s.slots s.keeps t e is on.kept_drivers)

pub republish_keeps : (s : State) (t u : ℕ) (e f : Entry) → Holds s → Events.entry_of t (row_at s.rows t) ≡ Some e → slot_at s.slots u ≡ Live f → may_republish s t u e f ≡ true → Holds (after_republish s t u e f)
republish_keeps s t u e f on of at may =
    let told = R.may_republish_tells s t u e f on of at may in
    let is : R.IsSwap s f e = told.2 in
    let m : R.MaySwap s.history s.slots f e = is.swap in
    let slots : List Slot = set s.slots e.slot (Live e) in
    let still : slot_at slots f.slot ≡ Live f = R.old_still s.history s.slots f e m in
    let unused = and_parts (list_all Events.is_bias (take s.settings.cpus (get_or s.counts e.slot []))) (total_at s.totals e.slot == bias) is.unused in
    let none : held_at s.locals s.hands s.keeps s.due e.number e.slot ≡ 0 =
    published_held s.history s.settings.cpus s.slots s.hands s.keeps s.due s.locals e.number e.slot on.slots (omega (arith, m.number)) is.rest on.references on.kept_drivers in
    let fit = fit_of s on in
    let first = C.publish on.balance fit e.slot e m.within m.vacant is.rest (λ c lt. bias_at fit e.slot c m.within lt unused.0) none in
    let fit_now : C.CountsFit s.settings slots s.marks s.counts (set s.nets e.slot (replicate MOST_CPUS bias)) s.totals s.hands s.keeps = record {
      cpu_limit = fit.cpu_limit;
      limit = fit.limit;
      slot_length = length-set s.slots e.slot (Live e) ∙ fit.slot_length;
      mark_length = fit.mark_length;
      mark_rows = fit.mark_rows;
      count_length = fit.count_length;
      count_rows = fit.count_rows;
      net_length = length-set s.nets e.slot (replicate MOST_CPUS bias) ∙ fit.net_length;
      net_rows = L.rows_put s.nets e.slot (replicate MOST_CPUS bias) refl fit.net_rows;
      total_length = fit.total_length;
      hand_length = fit.hand_length;
      keep_length = fit.keep_length;
    } in
    R.republish_keeps s t u e f on told.0 told.1 is
    (C.unpublish first fit_now f.slot f is.rest still)
    (references_unpublish (references_publish on.references e.slot e m.within m.vacant) f.slot f (ranges s.settings on.fit).some_cpu still)
    (drivers_unpublish slots s.keeps f.slot f still (drivers_publish s.slots s.keeps e.slot e m.within m.vacant is.rightly on.kept_drivers))

-- Grace

pub snapshot_keeps : (s : State) (t c : ℕ) → Holds s → Events.is_snapshot_due s.due t c ≡ true → Holds (Events.after_snapshot s t c)
snapshot_keeps s t c on is =
    let due : s.due ≡ Snapshots t c = snapshot_due_tells s.due t c is in
    M.snapshot_keeps s t c on is
    (C.snapshot on.balance c t (Events.snapshot_mark (section_at s c)) due refl)
    (references_snapshot on.references t c due)

-- The end of a slot's use

pub vacate_keeps : (s : State) (t : ℕ) → Holds s → Events.may_vacate s t ≡ true → Holds (Events.after_vacate s t)
vacate_keeps s t on may =
    let p = and_parts (is_none (kept_at s.keeps t)) (Events.is_drained s t) may in
    let told = M.is_drained_tells s t on p.1 in
    let e : Entry = told.1.0 in
    let gone : slot_at s.slots t ≡ Retired e = told.1.1 in
    let none : held_at s.locals s.hands s.keeps s.due e.number t ≡ 0 = none_held_at_bias on.balance t e told.0 gone told.4 told.5 in
    M.vacate_keeps s t on may (C.vacate on.balance t (in_within s.slots t e (inr gone)) told.5)
    (references_vacate on.references s.keeps t e gone told.0 none) (drivers_vacate s.slots s.hands s.keeps s.due s.locals t e gone none on.kept_drivers)

pub kept_sub_keeps : (s : State) (t d u : ℕ) → Holds s → kept_at s.keeps t ≡ Some d → slot_of s.slots d ≡ Some u → Events.is_drained s t ≡ true → Holds (Events.after_kept_sub s t u)
kept_sub_keeps s t d u on keeps of drained =
    let told = M.is_drained_tells s t on drained in
    let e : Entry = told.1.0 in
    let gone : slot_at s.slots t ≡ Retired e = told.1.1 in
    let none : held_at s.locals s.hands s.keeps s.due e.number t ≡ 0 = none_held_at_bias on.balance t e told.0 gone told.4 told.5 in
    let driver = kept_found s.history s.slots s.keeps t d u e on.slots on.kept_drivers (inr gone) keeps of in
    M.kept_sub_keeps s t u on drained
    (C.kept_sub on.balance (fit_of s on) t u d driver.0 (in_within s.slots t e (inr gone)) (λ same. driver.4 (sym same)) told.0 keeps driver.1 driver.2
    (only_slot s u d driver.0 on driver.1 driver.2) told.5)
    (references_vacate on.references s.keeps t e gone told.0 none)
    (drivers_kept_sub s.slots s.hands s.keeps s.due s.locals t e gone none on.kept_drivers)

pub opening_holds : (z : Settings) → IsTrue (are_fit z) → Holds (opening z)
opening_holds z fit = M.opening_holds z fit (C.opening z) (references_opening z.cpus z.slots) (drivers_opening z.slots z.slots)

-- no clause speaks of the live words, except of their number
live_store_keeps : (s : State) (t v : ℕ) → Holds s → Holds (Events.after_live_store s t v)
live_store_keeps s t v on = assumption (length-set s.lives t v ∙ on.shape.lives)

-- Each event

made_keeps : (s t : State) (e : Event) (r : Reply) → Holds s → Made s e t r → Holds t
made_keeps s _ _ _ on (Seats c may) = seat_keeps s c on may
made_keeps s _ _ _ on (Enters c may) = enter_keeps s c on may
made_keeps s _ _ _ on (Exits c may) = exit_keeps s c on may
made_keeps s _ _ _ on (Seeks c kind name may) = seek_keeps s c (record { kind = kind; name = name }) on may
made_keeps s _ _ _ on (LoadsEnd c q at is) = subst Keeps is (link_keeps s c q on at)
made_keeps s _ _ _ on (LoadsSlot c t q at is) = subst Keeps is (link_keeps s c q on at)
made_keeps s _ _ _ on (LoadsWord c w q p at is) = subst Keeps is (record_keeps s c q on at)
made_keeps s _ _ _ on (LoadsLast c q e at is) = subst Keeps is (record_keeps s c q on at)
made_keeps s _ _ _ on (StoresRow t k v may) = L.row_store_keeps s t k v on may
made_keeps s _ _ _ on (StoresCount t k v may) =
    let p = and_parts (Events.may_write s t) (nat_lt (k - 5) s.settings.cpus) may in
    count_store_keeps s t (k - 5) v on p.0 (ltb-true (k - 5) s.settings.cpus p.1)
made_keeps s _ _ _ on (StoresLink t v may) = L.link_store_keeps s t v on may
made_keeps s _ _ _ on (Publishes t e of may) = publish_keeps s t e on of may
made_keeps s _ _ _ on (Unpublishes t head next e at rest is) = subst (λ (x : State). Holds (Events.with_retired x t e)) is (unpublish_keeps s t e on at rest)
made_keeps s _ _ _ on (Republishes t u head next e f of at may is) = subst (λ (x : State). Holds (with_replaced x t u e f)) is (republish_keeps s t u e f on of at may)
made_keeps s _ _ _ on (Hears c idle) = hear_keeps s c on idle
made_keeps s _ _ _ on (Snaps t c due) = snapshot_keeps s t c on due
made_keeps s _ _ _ on (Looks t c may) = M.look_keeps s t c on may (C.one_marked on.balance c t (mark_after_look (mark_at s.marks t c) (section_at s c)) refl)
made_keeps s _ _ _ on (AddsPassive c n t of may) = M.add_keeps s c n t on of may
made_keeps s _ _ _ on (SubsPassive c n t of may) = M.sub_keeps s c t on may
made_keeps s _ _ _ on (LooksPassive t c may) = M.look_passive_keeps s t c on may (C.one_marked on.balance c t (mark_after_passive_look (mark_at s.marks t c) (passive_at s.passive c t)) refl)
made_keeps s _ _ _ on (Counts c t e found of may) = count_add_keeps s c t e on found of may
made_keeps s _ _ _ on (Splits c n hand) = split_keeps s c n on hand
made_keeps s _ _ _ on (Joins c n id at idle) = join_keeps s c n id on (standing_tells (local_at s.locals id) n at) idle
made_keeps s _ _ _ on (CountsDown c n id t hand of same) = count_down_keeps s c n id t on hand of (eqb-true (count_at s.counts c t) (count_at s.nets c t) same)
made_keeps s _ _ _ on (FindsCollected c n id hand) = collected_keeps s c n id on hand
made_keeps s _ _ _ on (SplitsBack c n id hand) = split_back_keeps s c n id on hand
made_keeps s _ _ _ on (Collects t c may) = collect_keeps s t c on may
made_keeps s _ _ _ on (AddsTotal t old due) = total_add_keeps s t old on due
made_keeps s _ _ _ on (JoinsKeeper id n t at of may) = join_keeper_keeps s id n t on (standing_tells (local_at s.locals id) n at) of may
made_keeps s _ _ _ on (SubsTotal t due) = total_sub_keeps s t on due
made_keeps s _ _ _ on (KeepsDriver t id n u at of may) = keep_keeps s t id n u on (standing_tells (local_at s.locals id) n at) of may
made_keeps s _ _ _ on (SubsKept t d u keeps of may) = kept_sub_keeps s t d u on keeps of (and_parts (Events.is_iface_slot (slot_at s.slots t)) (Events.is_drained s t) may).1
made_keeps s _ _ _ on (Vacates t may) = vacate_keeps s t on may
made_keeps s _ _ _ on (Shows t v) = live_store_keeps s t v on
made_keeps s _ _ _ on (Hides t) = live_store_keeps s t 0 on
made_keeps s _ _ _ on (Recalls c t may) = recall_keeps s c t on may
made_keeps s _ _ _ on (RecallsHead c may) = recall_head_keeps s c on may
made_keeps s _ _ _ on (Refinds c t n e at may) = refind_keeps s c t n e on at may
made_keeps s _ _ _ on (Tries c t n may) = try_keeps s c t n on may
made_keeps s _ _ _ on (ConfirmsTry c t n hand may) = confirm_keeps s c t n on hand may
made_keeps s _ _ _ on (TakesBack c t n hand) = take_back_keeps s c t n on hand
made_keeps s _ _ _ on _ = on

pub step_holds : (s t : State) (e : Event) (r : Reply) → Holds s → Events.step s e ≡ Some (record { state = t; reply = r }) → Holds t
step_holds s t e r on is = made_keeps s t e r on (made s e (record { state = t; reply = r }) is)

pub step_keeps : (s : State) (e : Event) → Holds s → Keeps (Events.step s e)
step_keeps s e on = each_event Keeps s e tt (λ n r made. made_keeps s n e r on made)

-- the state after an event, made or not
pub after_keeps : (s : State) (o : Option Outcome) → Holds s → Keeps o → Holds (Events.state_after s o)
after_keeps s o on keeps = grind arith

pub turned_keeps : (r : Run) (o : Option Outcome) → Holds r.state → Keeps o → Holds (run_with_event r o).state
turned_keeps r o on keeps = grind arith

pub ran_keeps : (r : Run) (es : List Event) → Holds r.state → Holds (run_of_events r es).state
ran_keeps r [] on = on
ran_keeps r (e ∷ es) on = ran_keeps (run_with_event r (Events.step r.state e)) es (turned_keeps r (Events.step r.state e) on (step_keeps r.state e on))
