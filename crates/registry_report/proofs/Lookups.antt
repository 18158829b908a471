-- Least numbers that pass a test; a lookup computed change by change is the one of the history, and the end of an entry is where it is detached or replaced.
use Rattle.std.specs.Prelude.{◌↔◌, slice_get, if◌then◌else◌, ◌==◌}
use Rattle.std.proofs.lemmas.Option.{none-some, same_Some, get_or_from_slice_get, slice_get-get_or}
use Rattle.std.proofs.Common.{◌∙◌, ◌≡◌, ℕ, zero, suc, ◌+◌, ◌<◌, List, [], ◌∷◌, length, get_or, Option, Some, None, Bool, true, false, refl, sym, arith, position, sum_by, ◌≤◌, ap, subst, eqb-true}
use Rattle.std.proofs.lemmas.List.Quantifiers.{position-Some}
use Rattle.std.proofs.lemmas.List.Sums.{sum_by-cons}
use Rattle.std.proofs.lemmas.Bool.{eq-eqb, false_from_ne_true}
use Rattle.registry_report.specs.Types.{Entry, Change, Attach, Detach, Replace, Key}
use Rattle.registry_values.specs.Common.{least_below, or_next, key_of, same_key}
use Rattle.registry_values.proofs.Slots.{least_is, none_below, least_none, key_from, key_same}
use Rattle.protocol.specs.Common.{kept_of, one_if, kept_at, IsAttached, EndsAt, IsLiveAt, IsLegal, IsLookup, is_number, brought_by, ended_by}
use Rattle.protocol.specs.History.{change_at}
use Rattle.protocol.proofs.Cells.{position_fails}
use Rattle.protocol.proofs.History.{attached_within, ended_within, ends_after, one_end, one_live, stays}
use Rattle.passive_core.proofs.Advancing.{least_some}
use Rattle.registry_report.specs.Common.{count_below, is_this, answer_after, lookup, is_end_of, end_of, place_after, entry_of}

-- The least number below a bound that passes, and how many do: of equal tests, and over the places of a list.

-- equal tests have one count
pub same_count : (p q : ℕ → Bool) (n : ℕ) → ((c : ℕ) → c < n → p c ≡ q c) → count_below p n ≡ count_below q n
same_count p q zero same = refl
same_count p q (suc n) same = rw (same_count p q n (λ c lt. same c (omega arith)), same n (omega arith)) refl

position_by : {X : Type 0} (p : X → Bool) (xs : List X) (d : X) (o : Option ℕ) → position p xs ≡ o → o ≡ least_below (λ t. p (get_or xs t d)) (length xs)
position_by p xs d None at = sym (none_below (λ t. p (get_or xs t d)) (length xs) (λ t lt. false_from_ne_true (p (get_or xs t d)) (position_fails p xs t d at lt)))
position_by p xs d (Some i) at =
    let first = position-Some p xs i d at in
    sym (least_is (λ t. p (get_or xs t d)) i (length xs) first.0 first.1 first.2)

-- The first element that passes is in the lowest place that does.
pub position_is : {X : Type 0} (p : X → Bool) (xs : List X) (d : X) → position p xs ≡ least_below (λ t. p (get_or xs t d)) (length xs)
position_is p xs d = position_by p xs d (position p xs) refl

-- the first number apart
count_first : (p : ℕ → Bool) (n : ℕ) → count_below p (suc n) ≡ one_if (p 0) + count_below (λ t. p (suc t)) n
count_first p zero = omega arith
count_first p (suc n) = omega (arith, count_first p n)

-- A sum of ones over a list counts its places that pass.
pub sum_is : {X : Type 0} (f : X → ℕ) (p : X → Bool) (xs : List X) (d : X) → ((x : X) → f x ≡ one_if (p x)) → sum_by f xs ≡ count_below (λ t. p (get_or xs t d)) (length xs)
sum_is f p [] d ones = refl
sum_is f p (x ∷ xs) d ones = omega (arith, sum_by-cons f x xs, ones x, sum_is f p xs d ones, count_first (λ t. p (get_or (x ∷ xs) t d)) (length xs))

kept_one : (n : ℕ) (o : Option ℕ) → kept_of n o ≡ one_if (is_this n o)
kept_one n None = refl
kept_one n (Some m) = refl

-- what slots keep of n
pub kept_is : (n : ℕ) (keeps : List (Option ℕ)) → sum_by (kept_of n) keeps ≡ count_below (λ t. is_this n (kept_at keeps t)) (length keeps)
kept_is n keeps = sum_is (kept_of n) (is_this n) keeps None (kept_one n)

or_next_first : (p : ℕ → Bool) (n c : ℕ) (o : Option ℕ) (b : Bool) → least_below p n ≡ o → or_next o b n ≡ Some c → ((least_below p n ≡ Some c → (d : ℕ) → d < c → p d ≡ false)) → (d : ℕ) → d < c
    → p d ≡ false
or_next_first p n c (Some x) b at is before d lt = before (at ∙ is) d lt
or_next_first p n c None true at is before d lt = let same : n ≡ c = same_Some n c is in least_none p n at d (omega arith)
or_next_first p n c None false at is before d lt = absurd (none-some c is)

least_first : (p : ℕ → Bool) (n c : ℕ) → least_below p n ≡ Some c → (d : ℕ) → d < c → p d ≡ false
least_first p zero c is d lt = absurd (none-some c is)
least_first p (suc n) c is d lt = or_next_first p n c (least_below p n) (p n) refl is (least_first p n c) d lt

-- the least is the one that passes where none below it does
pub least_iff : (p : ℕ → Bool) (n c : ℕ) → (least_below p n ≡ Some c) ↔ ((c < n) × (p c ≡ true) × ((d : ℕ) → d < c → p d ≡ false))
least_iff p n c = (λ is. ((least_some p n c is).0, (least_some p n c is).1, least_first p n c is), λ has. least_is p c n has.0 has.1 has.2)

-- A lookup computed change by change is the one of the history, and the end of an entry is where it is detached or replaced.

-- One change more

-- who is live was so, unless this change is the attach
live_back : (h : List Change) (k : ℕ) (e : Entry) → IsLiveAt h (suc k) e → (e.number ≡ suc k → ⊥) → IsLiveAt h k e
live_back h k e live old = record {
  attached = live.attached;
  begun = let le : e.number ≤ suc k = live.begun in omega (arith, old);
  unended = λ p x. let later : suc k < p = live.unended p x in omega arith;
}

-- who came at a position isn't one that its change doesn't bring
not_here : (h : List Change) (k : ℕ) (e : Entry) (x : Option Change) → IsAttached h e → change_at h k ≡ x → (brought_by x ≡ Some e → ⊥) → e.number ≡ k → ⊥
not_here h k e x att is other at = other (ap brought_by (sym is) ∙ (ap (λ (n : ℕ). brought_by (change_at h n)) (sym at) ∙ att))

-- a change that brings no entry with the key, and doesn't end the answer
past_step : (h : List Change) (key : Key) (k : ℕ) (a : Option Entry) (x : Option Change) → change_at h (suc k) ≡ x → ((e : Entry) → brought_by x ≡ Some e → key_of e ≡ key → ⊥)
    → ((e : Entry) → a ≡ Some e → ended_by x ≡ Some e.number → ⊥) → IsLookup h k key a → IsLookup h (suc k) key a
past_step h key k None x is other lasts was = λ e live same. was e (live_back h k e live (not_here h (suc k) e x live.attached is (λ q. other e q same))) same
past_step h key k (Some e) x is other lasts was = (stays h k e was.0 (λ (q : EndsAt h e.number (suc k)). lasts e refl (ap ended_by (sym is) ∙ q)), was.1)

-- one that brings an entry with the key
new_step : (h : List Change) → IsLegal h → (key : Key) (k : ℕ) (f : Entry) → brought_by (change_at h (suc k)) ≡ Some f → key_of f ≡ key → IsLookup h (suc k) key (Some f)
new_step h legal key k f is same =
    let number : f.number ≡ suc k = legal.numbered (suc k) f is in (
      record {
        attached = ap (λ (n : ℕ). brought_by (change_at h n)) number ∙ is;
        begun = omega arith;
        unended = λ p x. subst (λ (n : ℕ). n < p) number (ends_after h legal f.number p x);
      },
      same,
    )

-- one that brings an entry, and ends an answer only if the entry has the key too
key_step : (h : List Change) → IsLegal h → (key : Key) (k : ℕ) (f : Entry) (a : Option Entry) (x : Option Change) (b : Bool) → change_at h (suc k) ≡ x → brought_by x ≡ Some f
    → ((e : Entry) → IsLookup h k key (Some e) → ended_by x ≡ Some e.number → key_of f ≡ key) → same_key (key_of f) key ≡ b → IsLookup h k key a → IsLookup h (suc k) key (if b then Some f else a)
key_step h legal key k f a x true is brings alike test was = new_step h legal key k f (ap brought_by is ∙ brings) (key_from (key_of f) key test)
key_step h legal key k f a x false is brings alike test was =
    let off : key_of f ≡ key → ⊥ = λ same. let q : ◌≡◌ {A = Bool} true false = sym (ap (λ (y : Key). same_key y key) same ∙ key_same key) ∙ test in cc in
    past_step h key k a x is (λ e q same. off (ap key_of (same_Some f e (sym brings ∙ q)) ∙ same)) (λ e at q. off (alike e (subst (IsLookup h k key) at was) q)) was

-- the answer ends
end_step : (h : List Change) → IsLegal h → (key : Key) (k n : ℕ) (e : Entry) → change_at h (suc k) ≡ Some (Detach n) → e.number ≡ n → IsLookup h k key (Some e) → IsLookup h (suc k) key None
end_step h legal key k n e is number was f live same =
    let old : IsLiveAt h k f = live_back h k f live (not_here h (suc k) f (Some (Detach n)) live.attached is (λ q. none-some f q)) in
    let one : f ≡ e = one_live h legal k f e old was.0 (same ∙ sym was.1) in
    let late : suc k < suc k = live.unended (suc k) (ap ended_by is ∙ ap (λ (m : ℕ). Some m) (sym number ∙ ap (λ (g : Entry). g.number) (sym one))) in
    omega arith

-- another entry does
beside_step : (h : List Change) (key : Key) (k n : ℕ) (a : Option Entry) → change_at h (suc k) ≡ Some (Detach n) → is_number n a ≡ false → IsLookup h k key a → IsLookup h (suc k) key a
beside_step h key k n a is other was = past_step h key k a (Some (Detach n)) is (λ e q same. none-some e q)
    (λ e at q.
    let yes : (e.number == n) ≡ true = eq-eqb e.number n (sym (same_Some n e.number q)) in
    let no : ◌≡◌ {A = Bool} true false = sym yes ∙ (ap (is_number n) (sym at) ∙ other) in cc)
    was

detach_step : (h : List Change) → IsLegal h → (key : Key) (k n : ℕ) (a : Option Entry) (b : Bool) → change_at h (suc k) ≡ Some (Detach n) → is_number n a ≡ b → IsLookup h k key a
    → IsLookup h (suc k) key (if b then None else a)
detach_step h legal key k n a false is test was = beside_step h key k n a is test was
detach_step h legal key k n None true is test was = absurd (let q : ◌≡◌ {A = Bool} false true = test in cc)
detach_step h legal key k n (Some e) true is test was = end_step h legal key k n e is (eqb-true e.number n test) was

change_step : (h : List Change) → IsLegal h → (key : Key) (k : ℕ) (a : Option Entry) (x : Option Change) → change_at h (suc k) ≡ x → IsLookup h k key a → IsLookup h (suc k) key (answer_after key a x)
change_step h legal key k a None is was = past_step h key k a None is (λ e q same. none-some e q) (λ e at q. none-some e.number q) was
change_step h legal key k a (Some (Attach f)) is was =
    key_step h legal key k f a (Some (Attach f)) (same_key (key_of f) key) is refl (λ e now q. absurd (none-some e.number q)) refl was
change_step h legal key k a (Some (Detach n)) is was = detach_step h legal key k n a (is_number n a) is refl was
change_step h legal key k a (Some (Replace n r f)) is was =
    key_step h legal key k f a (Some (Replace n r f)) (same_key (key_of f) key) is refl (λ e now q. sym (legal.alike k n r f e is now.0 (sym (same_Some n e.number q))).0 ∙ now.1) refl was

-- What is computed change by change is the lookup at each point.
pub lookup_is : (h : List Change) → IsLegal h → (key : Key) (k : ℕ) → IsLookup h k key (lookup h key k)
lookup_is h legal key zero = λ e live same. let low : e.number ≤ 0 = live.begun in let some : 0 < e.number = (attached_within h e live.attached).0 in omega arith
lookup_is h legal key (suc k) = change_step h legal key k (lookup h key k) (change_at h (suc k)) refl (lookup_is h legal key k)

-- A lookup has one answer.
pub one_lookup : (h : List Change) → IsLegal h → (k : ℕ) (key : Key) (a b : Option Entry) → IsLookup h k key a → IsLookup h k key b → a ≡ b
one_lookup h legal k key None None is also = refl
one_lookup h legal k key None (Some e) is also = absurd (is e also.0 also.1)
one_lookup h legal k key (Some e) None is also = absurd (also e is.0 is.1)
one_lookup h legal k key (Some e) (Some f) is also = ap (λ (g : Entry). Some g) (one_live h legal k e f is.0 also.0 (is.1 ∙ sym also.1))

-- Ends

end_from : (n : ℕ) (x : Change) → is_end_of n x ≡ true → ended_by (Some x) ≡ Some n
end_from n (Attach e) is = absurd (let q : ◌≡◌ {A = Bool} false true = is in cc)
end_from n (Detach m) is = ap (λ (j : ℕ). Some j) (eqb-true m n is)
end_from n (Replace m r e) is = ap (λ (j : ℕ). Some j) (eqb-true m n is)

end_at : (h : List Change) (n i : ℕ) → position (is_end_of n) h ≡ Some i → EndsAt h n (suc i)
unfolding change_at
end_at h n i at =
    let found = position-Some (is_end_of n) h i (Detach n) at in
    ap ended_by (slice_get-get_or h i (Detach n) found.0) ∙ end_from n (get_or h i (Detach n)) found.1

counted_from : (o : Option ℕ) (p : ℕ) → place_after o ≡ Some p → (i : ℕ) × (o ≡ Some i) × (p ≡ suc i)
counted_from None p is = absurd (none-some p is)
counted_from (Some i) p is = (i, refl, same_Some p (suc i) (sym is))

-- where an end is computed, the entry ends there
pub end_tells : (h : List Change) (n p : ℕ) → end_of h n ≡ Some p → EndsAt h n p
end_tells h n p is =
    let at = counted_from (position (is_end_of n) h) p is in
    subst (EndsAt h n) (sym at.2) (end_at h n at.0 at.1)

-- what ends the entry is an end of it
ends_by : (n : ℕ) (x : Option Change) → ended_by x ≡ Some n → (c : Change) × (x ≡ Some c) × (is_end_of n c ≡ true)
ends_by n None ends = absurd (none-some n ends)
ends_by n (Some (Attach e)) ends = absurd (none-some n ends)
ends_by n (Some (Detach m)) ends = (Detach m, refl, eq-eqb m n (same_Some m n ends))
ends_by n (Some (Replace m r e)) ends = (Replace m r e, refl, eq-eqb m n (same_Some m n ends))

ends_position : (h : List Change) (n p : ℕ) → EndsAt h n p → (i : ℕ) × (p ≡ suc i) × (i < length h) × ((c : Change) × (slice_get h i ≡ Some c) × (is_end_of n c ≡ true))
unfolding change_at
ends_position h n zero x = absurd (none-some n x)
ends_position h n (suc i) x = (i, refl, (let w = (ended_within h n (suc i) x).1 in omega arith), ends_by n (slice_get h i) x)

end_somewhere : (h : List Change) → IsLegal h → (n p : ℕ) → EndsAt h n p → (o : Option ℕ) → position (is_end_of n) h ≡ o → place_after o ≡ Some p
end_somewhere h legal n p x None at =
    let w = ends_position h n p x in
    let here : is_end_of n (get_or h w.0 (Detach n)) ≡ true = ap (is_end_of n) (get_or_from_slice_get h w.0 w.3.0 (Detach n) w.3.1) ∙ w.3.2 in
    absurd (position_fails (is_end_of n) h w.0 (Detach n) at w.2 here)
end_somewhere h legal n p x (Some i) at = ap (λ (k : ℕ). Some k) (one_end h legal n (suc i) p (end_at h n i at) x)

-- and the end of an entry is the one computed
pub end_is : (h : List Change) → IsLegal h → (n p : ℕ) → EndsAt h n p → end_of h n ≡ Some p
end_is h legal n p x = end_somewhere h legal n p x (position (is_end_of n) h) refl

-- The entry with a number is the one attached.
pub entry_is : (h : List Change) (e : Entry) → IsAttached h e → entry_of h e.number ≡ Some e
entry_is h e att = att
