-- Every event makes steps of the model.
use Rattle.std.proofs.Common.{inl, inr, ◌≡◌, ℕ, ◌+◌, ◌-◌, List, [], ◌∷◌, replicate, Option, Some, None, true, refl, sym, ap, subst, ◌∙◌, arith}
use Rattle.std.specs.Prelude.{IsSome}
use Rattle.std.proofs.lemmas.Bool.{and_parts}
use Rattle.protocol.specs.Types.{Settings, MOST_CPUS, Vacant}
use Rattle.protocol.specs.Common.{Event, Confirm, Reply, Empty, Trying, State, opening, total_at, hand_at, is_iface_slot, is_drained, local_at, Outcome, step, Run, run_with_event, run_of_events, empty_run, Holds, Model, empty_model, IsModelRun, Stays, passive_in, lookup_of, number_in, picture, Confirms, EveryRunIsModelRun, HasConfirm}
use Rattle.registry_values.specs.Common.{bias, slot_at, slot_of}
use Rattle.protocol.specs.Events
use Rattle.protocol.proofs.Made.{Made, Enters, Exits, Seeks, LoadsEnd, LoadsSlot, LoadsWord, LoadsLast, Publishes, Unpublishes, Republishes, Hears, Snaps, AddsPassive, SubsPassive, Counts, Splits, Joins, CountsDown, made, FindsCollected, SplitsBack, Collects, AddsTotal, JoinsKeeper, SubsTotal, KeepsDriver, SubsKept, Vacates, Recalls, RecallsHead, Refinds, Tries, ConfirmsTry, TakesBack}
use Rattle.protocol.proofs.Occupied.{at_rest_tells}
use Rattle.protocol.proofs.keeps.References.{standing_tells}
use Rattle.protocol.proofs.keeps.Keeping.{step_keeps, turned_keeps, opening_holds}
use Rattle.protocol.proofs.keeps.SearchKeeps.{AnswersLookup, link_answers, record_answers}
use Rattle.protocol.proofs.runs.Steps.{turned_state}
use Rattle.protocol.proofs.keeps.MarkKeeps.{cell_all}
use Rattle.protocol.proofs.Cells.{get_or_all}
use Rattle.protocol.proofs.counts.Sums.{number_of, no_hand}
use Rattle.protocol.proofs.model.RefiningSections.{same_model, join_runs, widen_run, enter_refines, exit_refines, seeing_refines, refind_refines, seek_refines, missed_refines, followed_refines, going_on_alike, no_step, over_refines}
use Rattle.protocol.proofs.model.RefiningReferences.{confirm_refines, take_back_refines, try_refines, add_refines, sub_refines, count_add_refines, split_refines, join_refines, count_down_refines, collected_refines, split_back_refines, snapshot_refines, collect_refines, total_add_refines, total_sub_refines, join_keeper_refines}
use Rattle.protocol.proofs.model.RefiningEntries.{publish_refines, republish_refines, retiring_refines, keep_refines, vacate_refines, kept_sub_refines}
use Rattle.protocol.proofs.keeps.SectionKeeps.{idle_tells, recall_head_tells, recall_tells}

-- the Confirm of an entry that is live is allowed
confirm_allowed : (s : State) (c t n : ℕ) → hand_at s c ≡ Trying t n → Events.may_confirm s c n (slot_at s.slots t) ≡ true → IsSome (step s (Confirm c))
confirm_allowed s c t n hand ok = grind arith

-- Each event; most leave the picture

made_refines : (s t : State) (e : Event) (r : Reply) → Holds s → Holds t → Made s e t r → IsModelRun (Confirms s e) (picture s) (picture t)
made_refines s _ _ _ on now (Enters c may) = enter_refines s c on may
made_refines s _ _ _ on now (Exits c may) = exit_refines s c on may
made_refines s _ _ _ on now (Seeks c kind name may) = seek_refines s c (record { kind = kind; name = name }) on may
made_refines s _ _ _ on now (LoadsEnd c q at is) = missed_refines s c q on at (subst (AnswersLookup c q) is (link_answers s c q on at))
made_refines s _ _ _ on now (LoadsSlot c t q at is) = followed_refines s c q t on at
made_refines s _ _ _ on now (LoadsWord c w q p at is) = no_step _ _ (going_on_alike s c q p at)
made_refines s _ _ _ on now (LoadsLast c q e at is) = over_refines s c q (Some e) on at (subst (AnswersLookup c q) is (record_answers s c q on at))
made_refines s _ _ _ on now (Publishes t e of may) = publish_refines s t e on now of may
made_refines s _ _ _ on now (Unpublishes t head next e at rest is) = retiring_refines s t e on (at_rest_tells s.due rest) at now.legal now.slots
made_refines s _ _ _ on now (Republishes t u head next e f of at may is) = republish_refines s t u e f on of at may
made_refines s _ _ _ on now (Hears c may) = seeing_refines s c on (idle_tells s c on may).0
made_refines s _ _ _ on now (Snaps t c due) = snapshot_refines s t c due
made_refines s _ _ _ on now (AddsPassive c n t of may) = add_refines s c n t on of may
made_refines s _ _ _ on now (SubsPassive c n t of may) = sub_refines s c n t on of may
made_refines s _ _ _ on now (Counts c t e found of may) = count_add_refines s c t e on found may
made_refines s _ _ _ on now (Splits c n hand) = split_refines s c n on hand
made_refines s _ _ _ on now (Joins c n id at idle) = join_refines s c n id on idle (standing_tells (local_at s.locals id) n at)
made_refines s _ _ _ on now (CountsDown c n id t hand of same) = count_down_refines s c n id t on hand
made_refines s _ _ _ on now (FindsCollected c n id hand) = collected_refines s c n id on hand
made_refines s _ _ _ on now (SplitsBack c n id hand) = split_back_refines s c n id on hand
made_refines s _ _ _ on now (Collects t c may) = collect_refines s t c may
made_refines s _ _ _ on now (AddsTotal t old due) = total_add_refines s t old (total_at s.totals t + old - bias) due
made_refines s _ _ _ on now (JoinsKeeper id n t at of may) = join_keeper_refines s id n t on (standing_tells (local_at s.locals id) n at) of may
made_refines s _ _ _ on now (SubsTotal t due) = total_sub_refines s t (total_at s.totals t - 1) on due
made_refines s _ _ _ on now (KeepsDriver t id n u at of may) = keep_refines s t id n u on (standing_tells (local_at s.locals id) n at) of may
made_refines s _ _ _ on now (SubsKept t d u keeps of may) = kept_sub_refines s t u d on now keeps (and_parts (is_iface_slot (slot_at s.slots t)) (is_drained s t) may).1
made_refines s _ _ _ on now (Vacates t may) = vacate_refines s t on now may
made_refines s _ _ _ on now (Recalls c t may) = seeing_refines s c on (omega (arith, (recall_tells s c t may).0, on.seats.within))
made_refines s _ _ _ on now (RecallsHead c may) = seeing_refines s c on (omega (arith, (recall_head_tells s c may).0, on.seats.within))
made_refines s _ _ _ on now (Refinds c t n e at may) = refind_refines s c t n e on at may
made_refines s _ _ _ on now (Tries c t n may) = try_refines s c t n on may
made_refines s _ _ _ on now (ConfirmsTry c t n hand may) = confirm_refines s c t n on hand may (refl, (t, hand), confirm_allowed s c t n hand may)
made_refines s _ _ _ on now (TakesBack c t n hand) = take_back_refines s c t n on hand
made_refines s _ _ _ on now _ = Stays

-- nothing has happened
pub opening_pictured : (z : Settings) → picture (opening z) ≡ empty_model
opening_pictured z = same_model (picture (opening z)) empty_model (record {
  history = refl;
  sections = λ c. get_or_all z.cpus None c;
  passes = λ c. get_or_all {X = ℕ} z.cpus 0 c;
  lookups = λ c. ap lookup_of (get_or_all z.cpus None c);
  found = λ c. get_or_all z.cpus None c;
  passive = λ c n. unpassed c (slot_of (replicate z.slots Vacant) n);
  locals = λ n. no_sum n;
  occupants = λ t. ap number_in (get_or_all z.slots Vacant t);
  keeps = λ t. get_or_all z.slots None t;
})
  where
    unpassed : (c : ℕ) (o : Option ℕ) → passive_in (replicate z.slots (replicate MOST_CPUS 0)) (replicate z.cpus Empty) c o ≡ 0
    unpassed c None = refl
    unpassed c (Some t) = omega (arith, cell_all {X = ℕ} z.slots MOST_CPUS 0 t c)

    no_sum : (n : ℕ) → (picture (opening z)).locals n ≡ 0
    no_sum n = omega (arith, no_hand n (replicate z.cpus Empty) (λ c named. let q : ◌≡◌ {A = Option ℕ} None (Some n) = ap number_of (sym (get_or_all z.cpus Empty c)) ∙ named in cc))

-- an event more, made or passed over
turned_refines : (r : Run) (e : Event) (o : Option Outcome) → step r.state e ≡ o → Holds r.state → Holds (run_with_event r o).state
    → IsModelRun (Confirms r.state e) (picture r.state) (picture (run_with_event r o).state)
turned_refines r e None is on now = Stays
turned_refines r e (Some o) is on now = made_refines r.state o.state e o.reply on now (made r.state e o is)

pub ran_refines : (r : Run) (es : List Event) → Holds r.state → IsModelRun (HasConfirm r.state es) (picture r.state) (picture (run_of_events r es).state)
ran_refines r [] on = Stays
ran_refines r (e ∷ es) on =
    let now : Holds (run_with_event r (step r.state e)).state = turned_keeps r (step r.state e) on (step_keeps r.state e on) in
    join_runs (picture r.state) (picture (run_with_event r (step r.state e)).state) (picture (run_of_events (run_with_event r (step r.state e)) es).state)
    (widen_run (λ c n here. inl here) _ _ (turned_refines r e (step r.state e) refl on now))
    (widen_run (λ c n later. inr (subst (λ (k : State). HasConfirm k es c n) (turned_state r (step r.state e)) later)) _ _
    (ran_refines (run_with_event r (step r.state e)) es now))

pub every_run_is_model_run : EveryRunIsModelRun
every_run_is_model_run z events fit =
    subst (λ (m : Model). IsModelRun (HasConfirm (opening z) events) m (picture (run_of_events (empty_run (opening z)) events).state)) (opening_pictured z) (ran_refines (empty_run (opening z)) events (opening_holds z fit))
