-- A replacement leaves no point without an entry; and lists of events without one have histories of attaches and detaches alone.
use Rattle.std.proofs.Common.{◌≡◌, ℕ, ◌≤◌, inl, inr, List, [], ◌∷◌, Option, Some, None, refl, sym, ap, subst, ◌∙◌, arith}
use Rattle.std.proofs.lemmas.Option.{none-some, same_Some}
use Rattle.protocol.specs.Types.{Entry, Change, Attach, Detach, Replace, Key, Live}
use Rattle.registry_values.specs.Common.{key_of, slot_at}
use Rattle.protocol.specs.Common.{brought_by, ended_by, after_change, Event, Republish, Reply, EndsAt, IsAttached, IsLawful, IsLegal, IsLiveAt, State, opening, Holds, Run, empty_run, run_of_events, run_with_event, state_after, step, HasRepublish, IsKept, IsPlain, IsRepublish, PlainRuns, ReplacedAtOnce, ReplacesAtOnce}
use Rattle.protocol.specs.History.{change_at, rank_at}
use Rattle.protocol.proofs.History.{at_cases, at_empty, rank_is, stands_on}
use Rattle.protocol.proofs.Made.{Made, Publishes, Unpublishes, Republishes, made, each_event}
use Rattle.protocol.proofs.keeps.Replacing.{may_republish_tells}
use Rattle.protocol.proofs.runs.Reuse.{every_run_keeps}
use Rattle.protocol.proofs.runs.Steps.{turned_state}
use Rattle.protocol.proofs.Either.{either}

-- Throughout

pub throughout : (h : List Change) → IsLegal h → (key : Key) (from to k : ℕ) (e : Entry) → IsLiveAt h from e → key_of e ≡ key → IsKept h from to key → from ≤ k → k ≤ to
    → (f : Entry) × IsLiveAt h k f × (key_of f ≡ key)
throughout h legal key from to k e live same kept lo hi = either (stands_on h legal from k e live lo)
    (λ on. (on.entry, on.live, on.key ∙ same))
    (λ gone. absurd (kept gone.position gone.entry gone.later (omega (arith, gone.by_then, hi)) gone.detach gone.attached (gone.same ∙ same)))

pub never_missed : (h : List Change) → IsLegal h → (key : Key) (from to : ℕ) (e : Entry) → IsLiveAt h from e → key_of e ≡ key → IsKept h from to key → IsLawful h from to key None → ⊥
never_missed h legal key from to e live same kept miss =
    let on = throughout h legal key from to miss.point e live same kept miss.from_on miss.up_to in
    miss.answered on.0 on.1 on.2

-- what a Republish makes
abbrev Replaced : State → Event → State → Type 0
Replaced s (Republish t u) n = (e : Entry) × (f : Entry) × (slot_at s.slots u ≡ Live f) × (e.slot ≡ t) × (key_of e ≡ key_of f)
    × (n.history ≡ after_change s.history (Replace f.number (rank_at s.history f.number) e))
Replaced s _ n = Unit {0}

made_replaced : (s n : State) (e : Event) (r : Reply) → Holds s → Made s e n r → Replaced s e n
made_replaced s _ _ _ on (Republishes t u head next e f of at may is) =
    let told = may_republish_tells s t u e f on of at may in
    (e, f, at, told.0, sym told.2.swap.key, refl)
made_replaced s _ _ _ on _ = tt

pub replaces_at_once : (s : State) → Holds s → ReplacesAtOnce s
replaces_at_once s on = record {
  made = λ t u o is. made_replaced s o.state (Republish t u) o.reply on (made s (Republish t u) o is);
  throughout = λ key from to k e live same kept lo hi. throughout s.history on.legal key from to k e live same kept lo hi;
  answered = λ key from to e live same kept miss. never_missed s.history on.legal key from to e live same kept miss;
}

pub replaced_at_once : ReplacedAtOnce
replaced_at_once z events fit = replaces_at_once _ (every_run_keeps z events fit)

-- Lists without one

abbrev HasNone : List Change → Type 0
HasNone h = (k n r : ℕ) (e : Entry) → change_at h k ≡ Some (Replace n r e) → ⊥

none_attach : (h : List Change) (f : Entry) → HasNone h → HasNone (after_change h (Attach f))
none_attach h f none k n r e is = either (at_cases h (Attach f) k (Replace n r e) is) (λ old. none k n r e old.was) (λ new. let q : Replace n r e ≡ Attach f = new.is in cc)

none_detach : (h : List Change) (m : ℕ) → HasNone h → HasNone (after_change h (Detach m))
none_detach h m none k n r e is = either (at_cases h (Detach m) k (Replace n r e) is) (λ old. none k n r e old.was) (λ new. let q : Replace n r e ≡ Detach m = new.is in cc)

made_none : (s n : State) (e : Event) (r : Reply) → Made s e n r → (IsRepublish e → ⊥) → HasNone s.history → HasNone n.history
made_none s _ _ _ (Publishes t e of may) other none = none_attach s.history e none
made_none s _ _ _ (Unpublishes t head next e at rest is) other none = none_detach s.history e.number none
made_none s _ _ _ (Republishes t u head next e f of at may is) other none = absurd (other tt)
made_none s _ _ _ _ other none = none

ran_none : (r : Run) (es : List Event) → (HasRepublish es → ⊥) → HasNone r.state.history → HasNone (run_of_events r es).state.history
ran_none r [] other none = none
ran_none r (e ∷ es) other none =
    let now : HasNone (state_after r.state (step r.state e)).history =
    each_event (λ o. HasNone (state_after r.state o).history) r.state e none (λ n reply made. made_none r.state n e reply made (λ is. other (inl is)) none) in
    ran_none (run_with_event r (step r.state e)) es (λ has. other (inr has)) (subst (λ (s : State). HasNone s.history) (sym (turned_state r (step r.state e))) now)

plain_rank : (h : List Change) (n : ℕ) → HasNone h → (x : Option Change) → change_at h n ≡ x → rank_at h n ≡ n
plain_rank h n none None is = rank_is h n None is
plain_rank h n none (Some (Attach e)) is = rank_is h n (Some (Attach e)) is
plain_rank h n none (Some (Detach m)) is = rank_is h n (Some (Detach m)) is
plain_rank h n none (Some (Replace m r e)) is = absurd (none n m r e is)

plain_attached : (h : List Change) (e : Entry) → HasNone h → IsAttached h e → (x : Option Change) → change_at h e.number ≡ x → change_at h e.number ≡ Some (Attach e)
plain_attached h e none a None is = absurd (none-some e (sym (ap brought_by is) ∙ a))
plain_attached h e none a (Some (Attach f)) is = is ∙ ap (λ (g : Entry). Some (Attach g)) (same_Some f e (sym (ap brought_by is) ∙ a))
plain_attached h e none a (Some (Detach m)) is = absurd (none-some e (sym (ap brought_by is) ∙ a))
plain_attached h e none a (Some (Replace m r f)) is = absurd (none e.number m r f is)

plain_ends : (h : List Change) (n p : ℕ) → HasNone h → EndsAt h n p → (x : Option Change) → change_at h p ≡ x → change_at h p ≡ Some (Detach n)
plain_ends h n p none a None is = absurd (none-some n (sym (ap ended_by is) ∙ a))
plain_ends h n p none a (Some (Attach f)) is = absurd (none-some n (sym (ap ended_by is) ∙ a))
plain_ends h n p none a (Some (Detach m)) is = is ∙ ap (λ (i : ℕ). Some (Detach i)) (same_Some m n (sym (ap ended_by is) ∙ a))
plain_ends h n p none a (Some (Replace m r f)) is = absurd (none p m r f is)

pub is_plain : (h : List Change) → HasNone h → IsPlain h
is_plain h none = record {
  none = none;
  rank = λ n. plain_rank h n none (change_at h n) refl;
  attached = λ e a. plain_attached h e none a (change_at h e.number) refl;
  ends = λ n p x. plain_ends h n p none x (change_at h p) refl;
}

pub plain_runs : PlainRuns
plain_runs z events other = is_plain _ (ran_none (empty_run (opening z)) events other (λ k n r e is. at_empty k (Replace n r e) is))
