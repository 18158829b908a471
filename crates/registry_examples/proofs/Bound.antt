-- How often a slot can be freed, by the history: each free is of an entry that was attached and has ended.
use Rattle.std.proofs.Common.{◌≡◌, ℕ, zero, suc, ◌+◌, ◌*◌, ◌<◌, ◌≤◌, ◌==◌, if◌then◌else◌, Bool, true, false, List, [], ◌∷◌, length, replicate, set, sum_by, IsTrue, Option, Some, None, refl, ap, subst, arith}
use Rattle.std.proofs.lemmas.List.Sums.{sum_by-set, sum_by-append, sum_by-cons}
use Rattle.std.proofs.lemmas.Bool.{and_parts}
use Rattle.name_registry.specs.Types.{Settings, LogItem, Change, Attach, Detach, Replace, Entry, Slot, Vacant, Live, Retired, Event, Reply}
use Rattle.registry_values.specs.Common.{are_fit, slot_at}
use Rattle.protocol.specs.Common.{State, Holds, Run, after, after_change, empty_run, opening, state_after, step, run_with_event, run_of_events, is_drained, destroyed_slot}
use Rattle.protocol.proofs.Made.{Made, Publishes, Unpublishes, Republishes, SubsKept, Vacates, each_event}
use Rattle.protocol.proofs.keeps.Keeping.{step_keeps, turned_keeps, opening_holds}
use Rattle.protocol.proofs.keeps.ListKeeps.{may_publish_tells}
use Rattle.protocol.proofs.keeps.MarkKeeps.{is_drained_tells}
use Rattle.protocol.proofs.keeps.Replacing.{IsSwap, may_republish_tells, old_still, old_within}
use Rattle.protocol.proofs.Occupied.{in_within}
use Rattle.protocol.proofs.runs.Steps.{turned_state}
use Rattle.std.proofs.Common.{inl, inr}
use Rattle.cpu_words.specs.Common.{EndsRun, by_number, did, log_with, log_from, part, events_of}
use Rattle.cpu_words.specs.declared.view.KeeperView.{KeeperView}
use Rattle.registry_examples.specs.{moves, moves_in, frees_in, with_freed}
use Rattle.registry_examples.proofs.Frees.{frees_append}

-- how many moves brought the slot where it is, of its entry
abbrev slot_moves : Slot → ℕ
slot_moves Vacant = 0
slot_moves (Live e) = 1
slot_moves (Retired e) = 2

abbrev slots_moves : List Slot → ℕ
slots_moves slots = sum_by slot_moves slots

put : (slots : List Slot) (t : ℕ) (x y : Slot) → t < length slots → slot_at slots t ≡ x → slots_moves (set slots t y) + slot_moves x ≡ slots_moves slots + slot_moves y
put slots t x y lt at = subst (λ (z : Slot). slots_moves (set slots t y) + slot_moves z ≡ slots_moves slots + slot_moves y) at (sum_by-set slot_moves slots t y Vacant lt)

moved : (h : List Change) (c : Change) → moves_in (after_change h c) ≡ moves_in h + moves c
moved h c = omega (arith, sum_by-append moves h (c ∷ []), sum_by-cons moves c [])

-- One event: what was freed had two moves.
abbrev Balances : State → Event → State → Reply → Type 0
Balances s e g r = 2 * frees_in (did (by_number s e) r) + slots_moves g.slots + moves_in s.history ≡ moves_in g.history + slots_moves s.slots

vacated : (s : State) (t : ℕ) → Holds s → is_drained s t ≡ true → slots_moves (set s.slots t Vacant) + 2 ≡ slots_moves s.slots
vacated s t on ok =
    let gone = (is_drained_tells s t on ok).1 in
    let less = put s.slots t (Retired gone.0) Vacant (in_within s.slots t gone.0 (inr gone.1)) gone.1 in
    omega (arith, less)

swapped : (s : State) (f e : Entry) → IsSwap s f e → slots_moves (set (set s.slots e.slot (Live e)) f.slot (Retired f)) ≡ slots_moves s.slots + 2
swapped s f e is =
    let slots = set s.slots e.slot (Live e) in
    let m = is.swap in
    omega (
      arith,
      put s.slots e.slot Vacant (Live e) m.within m.vacant,
      put slots f.slot (Live f) (Retired f) (old_within s.history s.slots f e m) (old_still s.history s.slots f e m),
    )

swapped_at : (s : State) (t u : ℕ) (e f : Entry) → (e.slot ≡ t) × (f.slot ≡ u) × IsSwap s f e → slots_moves (set (set s.slots t (Live e)) u (Retired f)) ≡ slots_moves s.slots + 2
swapped_at s t u e f told =
    subst (λ (v : ℕ). slots_moves (set (set s.slots t (Live e)) v (Retired f)) ≡ slots_moves s.slots + 2) told.1
    (subst (λ (w : ℕ). slots_moves (set (set s.slots w (Live e)) f.slot (Retired f)) ≡ slots_moves s.slots + 2) told.0 (swapped s f e told.2))

made_balances : (s g : State) (e : Event) (r : Reply) → Holds s → Made s e g r → Balances s e g r
made_balances s g _ _ on (Publishes t e of may) =
    let told = may_publish_tells s t e on.shape may in
    omega (arith, put s.slots t Vacant (Live e) told.within told.vacant, moved s.history (Attach e))
made_balances s g _ _ on (Unpublishes t head next e at rest past) =
    omega (arith, put s.slots t (Live e) (Retired e) (in_within s.slots t e (inl at)) at, moved s.history (Detach e.number))
made_balances s g _ _ on (Republishes t u head next e f of at may past) =
    omega (arith, swapped_at s t u e f (may_republish_tells s t u e f on of at may), λ (r : ℕ). moved s.history (Replace f.number r e))
made_balances s g _ _ on (SubsKept t d u keeps of may) = omega (arith, vacated s t on (and_parts _ (is_drained s t) may).1)
made_balances s g _ _ on (Vacates t may) = omega (arith, vacated s t on (and_parts _ (is_drained s t) may).1)
made_balances s g _ _ on _ = omega arith

-- All events of a list, from any state that keeps the invariant

event_balances : (s : State) (e : Event) → Holds s → (ds : List LogItem)
    → 2 * frees_in (log_with s e (step s e) ds) + slots_moves (state_after s (step s e)).slots + moves_in s.history ≡ 2 * frees_in ds + moves_in (state_after s (step s e)).history + slots_moves s.slots
event_balances s e on ds =
    each_event (λ o. 2 * frees_in (log_with s e o ds) + slots_moves (state_after s o).slots + moves_in s.history ≡ 2 * frees_in ds + moves_in (state_after s o).history + slots_moves s.slots) s e
    (omega arith)
    (λ g r made. let one : Balances s e g r = made_balances s g e r on made in omega (arith, one, frees_append (did (by_number s e) r) ds))

run_balances : (r : Run) (events : List Event) → Holds r.state
    → 2 * frees_in (log_from r events) + slots_moves (run_of_events r events).state.slots + moves_in r.state.history ≡ moves_in (run_of_events r events).state.history + slots_moves r.state.slots
run_balances r [] on = omega arith
run_balances r (e ∷ events) on =
    let o = step r.state e in
    let next = run_with_event r o in
    let is = turned_state r o in
    let rest = run_balances next events (turned_keeps r o on (step_keeps r.state e on)) in
    let slots : slots_moves next.state.slots ≡ slots_moves (state_after r.state o).slots = ap (λ (s : State). slots_moves s.slots) is in
    let history : moves_in next.state.history ≡ moves_in (state_after r.state o).history = ap (λ (s : State). moves_in s.history) is in
    omega (arith, event_balances r.state e on (log_from next events), rest, slots, history)

-- A run that has ended

none_moved : (n : ℕ) → slots_moves (replicate n Vacant) ≡ 0
none_moved zero = refl
none_moved (suc n) = none_moved n

more : (o : Option ℕ) (m n : ℕ) → m ≤ n → with_freed o m ≤ with_freed o n
more None m n le = le
more (Some t) m n le = omega (arith, le)

fewer : (o : Option ℕ) (m n : ℕ) → m ≤ n → m ≤ with_freed o n
fewer None m n le = le
fewer (Some t) m n le = omega (arith, le)

own_or_not : (own : Bool) (d : LogItem) (ds es : List LogItem) → frees_in ds ≤ frees_in es → frees_in (if own then d ∷ ds else ds) ≤ with_freed (destroyed_slot d.event) (frees_in es)
own_or_not true d ds es le = more (destroyed_slot d.event) (frees_in ds) (frees_in es) le
own_or_not false d ds es le = fewer (destroyed_slot d.event) (frees_in ds) (frees_in es) le

part_frees : (acts : List (ℕ × LogItem)) → frees_in (part 0 acts) ≤ frees_in (events_of acts)
part_frees [] = omega arith
part_frees (a ∷ acts) = own_or_not (a.0 == 0) a.1 (part 0 acts) (events_of acts) (part_frees acts)

-- the keeper freed at most half as often as the history moves
pub run_frees : (z : Settings) (k : KeeperView) (log : List LogItem) (last : List ℕ) (run : EndsRun z k log last) → 2 * frees_in (part 0 run.acts) ≤ moves_in k.history
run_frees z k log last run =
    let fit = subst (λ (w : Settings). IsTrue (are_fit w)) run.words.settings run.holds.fit in
    let all = run_balances (empty_run (opening z)) run.events (opening_holds z fit) in
    let list : frees_in (events_of run.acts) ≡ frees_in (log_from (empty_run (opening z)) run.events) = ap frees_in run.are in
    let history : moves_in k.history ≡ moves_in (after (opening z) run.events).history = ap (λ (v : KeeperView). moves_in v.history) run.shown.is in
    omega (arith, all, part_frees run.acts, list, history, none_moved z.slots)
