-- What each event does to the history, the slots, the sections, the passes and the searches, and a run over one event more.
use Rattle.std.proofs.Common.{◌≡◌, ℕ, ◌+◌, ◌<◌, List, [], ◌∷◌, ◌++◌, Option, refl, ap, ◌∙◌, take, length, get_or, sym, arith}
use Rattle.std.proofs.lemmas.List.{take_more}
use Rattle.protocol.specs.Common.{Event, Counted, State, Outcome, narrow_step, Run, narrow_run_of_events, run_with_event, step, state_after, run_of_events, empty_run, after, after_event}

-- A run over one event more.

pub ran_push : (r : Run) (es : List Event) (e : Event) → narrow_run_of_events r (es ++ e ∷ []) ≡ run_with_event (narrow_run_of_events r es) (narrow_step (narrow_run_of_events r es).state e)
ran_push r [] e = refl
ran_push r (f ∷ es) e = ran_push (run_with_event r (narrow_step r.state f)) es e

-- one event more, whose outcome is known
pub ran_more : (r : Run) (es : List Event) (i : ℕ) (d : Event) (s : State) (k : Counted) (o : Option Outcome) → i < length es → narrow_run_of_events r (take i es) ≡ record { state = s; counted = k }
    → narrow_step s (get_or es i d) ≡ o
    → narrow_run_of_events r (take (i + 1) es) ≡ run_with_event (record { state = s; counted = k }) o
ran_more r es i d s k o below so_far is =
    ap (narrow_run_of_events r) (take_more es i d below) ∙ ran_push r (take i es) (get_or es i d) ∙ rw (so_far, is) refl

-- The state that a list of events leads to, an event at a time.

-- the counts of a run don't matter to its state
pub turned_state : (r : Run) (o : Option Outcome) → (run_with_event r o).state ≡ state_after r.state o
turned_state r o = grind arith

pub same_states : (q r : Run) (es : List Event) → q.state ≡ r.state → (run_of_events q es).state ≡ (run_of_events r es).state
same_states q r [] same = same
same_states q r (e ∷ es) same = same_states (run_with_event q (step q.state e)) (run_with_event r (step r.state e)) es
    (turned_state q (step q.state e) ∙ (ap (λ (s : State). state_after s (step s e)) same ∙ sym (turned_state r (step r.state e))))

-- one event, and then the others
pub after_more : (s : State) (e : Event) (es : List Event) → after s (e ∷ es) ≡ after (after_event s e) es
after_more s e es = same_states (run_with_event (empty_run s) (step s e)) (empty_run (after_event s e)) es (turned_state (empty_run s) (step s e))
