-- Without a Try no hand is trying, so each passive word counts references alone.
use Rattle.std.proofs.Common.{◌≡◌, ℕ, inl, inr, List, [], ◌∷◌, set, refl, sym, ap, subst, ◌∙◌}
use Rattle.protocol.specs.Common.{Event, Reply, Hand, Empty, Taking, Giving, Back, State, opening, trying_at, trying_of, state_after, step, Run, run_of_events, run_with_event, empty_run, IsTry, HasTry, UntriedRuns}
use Rattle.protocol.proofs.Cells.{get_or_all}
use Rattle.protocol.proofs.Occupied.{written_cases}
use Rattle.protocol.proofs.Made.{Made, Counts, Splits, Joins, CountsDown, FindsCollected, SplitsBack, Tries, ConfirmsTry, TakesBack, each_event}
use Rattle.protocol.proofs.runs.Steps.{turned_state}
use Rattle.protocol.proofs.Either.{either}

-- no CPU is trying
abbrev Untried : List Hand → Type 0
Untried hands = (c t : ℕ) → trying_at hands c t ≡ 0

untried_hand : (hands : List Hand) (c : ℕ) (h : Hand) → ((t : ℕ) → trying_of t h ≡ 0) → Untried hands → Untried (set hands c h)
untried_hand hands c h none un d t = either (written_cases Empty hands c h d) (λ here. ap (trying_of t) here.1 ∙ none t) (λ off. ap (trying_of t) off.1 ∙ un d t)

step_untried : (s n : State) (e : Event) (r : Reply) → Made s e n r → (IsTry e → ⊥) → Untried s.hands → Untried n.hands
step_untried s _ _ _ (Counts c t e found of may) none un = untried_hand s.hands c (Taking e.number) (λ u. refl) un
step_untried s _ _ _ (Splits c n hand) none un = untried_hand s.hands c Empty (λ u. refl) un
step_untried s _ _ _ (Joins c n id at idle) none un = untried_hand s.hands c (Giving n id) (λ u. refl) un
step_untried s _ _ _ (CountsDown c n id t hand of same) none un = untried_hand s.hands c Empty (λ u. refl) un
step_untried s _ _ _ (FindsCollected c n id hand) none un = untried_hand s.hands c (Back n id) (λ u. refl) un
step_untried s _ _ _ (SplitsBack c n id hand) none un = untried_hand s.hands c Empty (λ u. refl) un
step_untried s _ _ _ (Tries c t n may) none un = absurd (none tt)
step_untried s _ _ _ (ConfirmsTry c t n hand may) none un = untried_hand s.hands c Empty (λ u. refl) un
step_untried s _ _ _ (TakesBack c t n hand) none un = untried_hand s.hands c Empty (λ u. refl) un
step_untried s _ _ _ _ none un = un

ran_untried : (r : Run) (es : List Event) → (HasTry es → ⊥) → Untried r.state.hands → Untried (run_of_events r es).state.hands
ran_untried r [] none un = un
ran_untried r (e ∷ es) none un =
    let now : Untried (state_after r.state (step r.state e)).hands =
    each_event (λ o. Untried (state_after r.state o).hands) r.state e un (λ n reply made. step_untried r.state n e reply made (λ is. none (inl is)) un) in
    ran_untried (run_with_event r (step r.state e)) es (λ has. none (inr has)) (subst (λ (s : State). Untried s.hands) (sym (turned_state r (step r.state e))) now)

pub untried_runs : UntriedRuns
untried_runs z events none c t = ran_untried (empty_run (opening z)) events none (λ d u. ap (trying_of u) (get_or_all z.cpus Empty d)) c t
