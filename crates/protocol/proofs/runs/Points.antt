-- Points of a list of events: an event adds one change at most, so each length of the history on the way is that at some point. A lookup's result at
-- a length is the result at the end of the history of that length.
use Rattle.std.proofs.Common.{◌≡◌, ℕ, suc, ◌≤◌, List, [], ◌∷◌, ◌++◌, length, Option, Some, None, Bool, true, false, refl, sym, ap, subst, ◌∙◌, arith, append_assoc}
use Rattle.std.proofs.lemmas.Bool.{cases_lt}
use Rattle.std.proofs.lemmas.List.{append-nil}
use Rattle.protocol.specs.Types.{Entry, Change, Attach, Detach, Replace, Key}
use Rattle.protocol.specs.History.{change_at, rank_at}
use Rattle.protocol.specs.Common.{Event, Reply, Done, EndsAt, IsAttached, IsLiveAt, IsLookup, State, guard, may_seek, after_seek, some_outcome, state_after, after, after_event, seek_for, brought_by, ended_by}
use Rattle.protocol.proofs.History.{at_prefix, attached_within, ended_within, length-after_change}
use Rattle.protocol.proofs.Made.{Made, Publishes, Unpublishes, Republishes, each_event}
use Rattle.protocol.proofs.runs.Answers.{history_grows}
use Rattle.protocol.proofs.runs.Steps.{after_more}
use Rattle.protocol.proofs.Either.{either}

-- How a list of events lets the history grow

one_more : (s n : State) (e : Event) (r : Reply) → Made s e n r → length n.history ≤ suc (length s.history)
one_more s _ _ _ (Publishes t e of may) = omega (arith, length-after_change s.history (Attach e))
one_more s _ _ _ (Unpublishes t head next e at rest is) = omega (arith, length-after_change s.history (Detach e.number))
one_more s _ _ _ (Republishes t u head next e f of at may is) = omega (arith, length-after_change s.history (Replace f.number (rank_at s.history f.number) e))
one_more s _ _ _ _ = omega arith

pub grows_by_one : (s : State) (e : Event) → length (after_event s e).history ≤ suc (length s.history)
grows_by_one s e = each_event (λ o. length (state_after s o).history ≤ suc (length s.history)) s e (omega arith) (λ n r made. one_more s n e r made)

-- a Seek changes no history
seek_guarded : (b : Bool) (s n : State) (r : Reply) → n.history ≡ s.history → (state_after s (guard b (some_outcome n r))).history ≡ s.history
seek_guarded true s n r same = same
seek_guarded false s n r same = refl

pub seek_same : (s : State) (c : ℕ) (key : Key) → (after_event s (seek_for c key)).history ≡ s.history
seek_same s c key = seek_guarded (may_seek s c) s (after_seek s c key) Done refl

-- the point of a list of events at which the history has k changes
pub record IsReached (s : State) (es : List Event) (k : ℕ) : Type 0 where
  pub done : List Event
  pub rest : List Event
  pub are : es ≡ done ++ rest
  pub there : length (after s done).history ≡ k

pub reached : (s : State) (es : List Event) (k : ℕ) → length s.history ≤ k → k ≤ length (after s es).history → IsReached s es k
reached s [] k low up = record { done = []; rest = []; are = refl; there = omega (arith, low, up) }
reached s (e ∷ es) k low up = either
    (cases_lt (length s.history) k)
    (λ more.
    let r = reached (after_event s e) es k (omega (arith, more, grows_by_one s e)) (subst (λ (n : State). k ≤ length n.history) (after_more s e es) up) in
    record { done = e ∷ r.done; rest = r.rest; are = ap (λ (d : List Event). e ∷ d) r.are; there = ap (λ (n : State). length n.history) (after_more s e r.done) ∙ r.there })
    (λ here. record { done = []; rest = e ∷ es; are = refl; there = omega (arith, low, here) })

pub all_grow : (s : State) (es : List Event) → (more : List Change) × ((after s es).history ≡ s.history ++ more)
all_grow s [] = ([], sym (append-nil s.history))
all_grow s (e ∷ es) =
    let first = history_grows s e in
    let rest = all_grow (after_event s e) es in
    (first.0 ++ rest.0, ap (λ (n : State). n.history) (after_more s e es) ∙ (rest.1 ∙ (ap (λ (h : List Change). h ++ rest.0) first.1 ∙ append_assoc s.history first.0 rest.0)))

-- What is live after the first changes, in the history of just these

-- what was attached, or ended, in the old history is so in the new one
pub at_grown : (old new more : List Change) (k : ℕ) → new ≡ old ++ more → k ≤ length old → change_at new k ≡ change_at old k
at_grown old new more k grown le = ap (λ (l : List Change). change_at l k) grown ∙ at_prefix old more k le

pub attached_grown : (old new more : List Change) (e : Entry) → new ≡ old ++ more → IsAttached old e → IsAttached new e
attached_grown old new more e grown att = ap brought_by (at_grown old new more e.number grown (attached_within old e att).1) ∙ att

pub ends_grown : (old new more : List Change) (n p : ℕ) → new ≡ old ++ more → EndsAt old n p → EndsAt new n p
ends_grown old new more n p grown ends = ap ended_by (at_grown old new more p grown (ended_within old n p ends).1) ∙ ends

ends_before : (h more : List Change) (n p : ℕ) → p ≤ length h → EndsAt (h ++ more) n p → EndsAt h n p
ends_before h more n p le ends = ap ended_by (sym (at_grown h (h ++ more) more p refl le)) ∙ ends

pub live_then : (h more : List Change) (e : Entry) → IsLiveAt h (length h) e → IsLiveAt (h ++ more) (length h) e
live_then h more e live = record {
  attached = attached_grown h (h ++ more) more e refl live.attached;
  begun = live.begun;
  unended = λ p ends. either (cases_lt (length h) p) (λ past. past) (λ within. live.unended p (ends_before h more e.number p within ends));
}

live_before : (h more : List Change) (e : Entry) → IsLiveAt (h ++ more) (length h) e → IsLiveAt h (length h) e
live_before h more e live = record {
  attached = ap brought_by (sym (at_grown h (h ++ more) more e.number refl live.begun)) ∙ live.attached;
  begun = live.begun;
  unended = λ p ends. live.unended p (ends_grown h (h ++ more) more e.number p refl ends);
}

-- a lookup over the first changes is one over just these
pub lookup_then : (h more : List Change) (key : Key) (answer : Option Entry) → IsLookup (h ++ more) (length h) key answer → IsLookup h (length h) key answer
lookup_then h more key None none = λ e live same. none e (live_then h more e live) same
lookup_then h more key (Some e) found = (live_before h more e found.0, found.1)
