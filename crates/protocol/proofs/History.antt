-- The history: what one more change keeps, what a legal history rules out, and that what a walk over links finds is lawful.
use Rattle.std.proofs.Common.{◌≡◌, ℕ, zero, suc, ◌<◌, ◌≤◌, ◌⊎◌, inl, inr, List, ◌∷◌, [], ◌++◌, length, Option, Some, refl, sym, ap, subst, ◌∙◌, arith, append_assoc, get_or, None}
use Rattle.std.specs.Prelude.{slice_get}
use Rattle.std.proofs.lemmas.Option.{slice_get_within, none-some, same_Some}
use Rattle.std.proofs.lemmas.Bool.{cases_lt, cases_eq}
use Rattle.std.proofs.lemmas.List.{append-nil}
use Rattle.protocol.specs.Types.{Entry, Change, Attach, Detach, Replace, Key, Settings}
use Rattle.registry_values.specs.Common.{key_of}
use Rattle.protocol.specs.Common.{after_change, brought_by, ended_by, rank_by, IsAttached, EndsAt, IsLiveAt, IsLegal, MayHold, Search, SearchPlace, AtHead, AtNext, AtNumber, AtKind, AtHigh, AtLow, AtValue, SectionsShow, SearchHolds, SearchesHold, FoundHold, Leads, To_end, To_entry, StandsOn, AllBelow, PlaceHolds, IsLookup, IsLawful}
use Rattle.protocol.specs.History.{change_at, rank_at}
use Rattle.protocol.proofs.Either.{either}

get_old : (h : List Change) (c : Change) (k : ℕ) → k < length h → slice_get (h ++ c ∷ []) k ≡ slice_get h k
get_old [] c k lt = absurd (omega arith)
get_old (x ∷ h) c zero lt = refl
get_old (x ∷ h) c (suc k) lt = get_old h c k (omega arith)

get_new : (h : List Change) (c : Change) → slice_get (h ++ c ∷ []) (length h) ≡ Some c
get_new [] c = refl
get_new (x ∷ h) c = get_new h c

length_after : (h : List Change) (c : Change) → length (h ++ c ∷ []) ≡ suc (length h)
length_after [] c = refl
length_after (x ∷ h) c = ap suc (length_after h c)

pub length-after_change : (h : List Change) (c : Change) → length (after_change h c) ≡ suc (length h)
length-after_change h c = length_after h c

pub at_old : (h : List Change) (c : Change) (k : ℕ) → k ≤ length h → change_at (after_change h c) k ≡ change_at h k
unfolding change_at
at_old h c zero le = refl
at_old h c (suc k) le = get_old h c k le

pub at_new : (h : List Change) (c : Change) → change_at (after_change h c) (suc (length h)) ≡ Some c
unfolding change_at
at_new h c = get_new h c

pub at_within : (h : List Change) (k : ℕ) (x : Change) → change_at h k ≡ Some x → (0 < k) × (k ≤ length h)
unfolding change_at
at_within h zero x e = absurd (none-some x e)
at_within h (suc k) x e = (omega arith, slice_get_within h k x e)

-- what a prefix has at a place, the whole has there
pub at_prefix : (p zs : List Change) (k : ℕ) → k ≤ length p → change_at (p ++ zs) k ≡ change_at p k
at_prefix p [] k le = ap (λ l. change_at l k) (append-nil p)
at_prefix p (z ∷ zs) k le =
    let n = length-after_change p z in
    ap (λ l. change_at l k) (sym (append_assoc p (z ∷ []) zs)) ∙ at_prefix (p ++ z ∷ []) zs k (omega arith) ∙ at_old p z k le

pub at_empty : (k : ℕ) (x : Change) → change_at [] k ≡ Some x → ⊥
unfolding change_at
at_empty zero x e = none-some x e
at_empty (suc k) x e = none-some x e

pub at_cases : (h : List Change) (c : Change) (k : ℕ) (x : Change) → change_at (after_change h c) k ≡ Some x
    → (record { old : k ≤ length h; was : change_at h k ≡ Some x }) ⊎ (record { new : k ≡ suc (length h); is : x ≡ c })
at_cases h c k x e = grind (arith, at_old h c k, at_within (after_change h c) k x e, length-after_change h c, at_new h c, cases_lt k (suc (length h)))

-- What a change brings and ends, by its position.

within_by : {X : Type 0} (h : List Change) (k : ℕ) (f : Option Change → Option X) (y : X) (x : Option Change) → f None ≡ None → change_at h k ≡ x → f x ≡ Some y → (0 < k) × (k ≤ length h)
within_by h k f y None none is at = absurd (none-some y (sym none ∙ at))
within_by h k f y (Some c) none is at = at_within h k c is

pub brought_within : (h : List Change) (k : ℕ) (e : Entry) → brought_by (change_at h k) ≡ Some e → (0 < k) × (k ≤ length h)
brought_within h k e a = within_by h k brought_by e (change_at h k) refl refl a

pub attached_within : (h : List Change) (e : Entry) → IsAttached h e → (0 < e.number) × (e.number ≤ length h)
attached_within h e a = brought_within h e.number e a

pub ended_within : (h : List Change) (n p : ℕ) → EndsAt h n p → (0 < p) × (p ≤ length h)
ended_within h n p x = within_by h p ended_by n (change_at h p) refl refl x

-- nothing is attached in no history, and nothing ends there
pub empty_brings : (k : ℕ) (e : Entry) → brought_by (change_at [] k) ≡ Some e → ⊥
empty_brings k e a = let within = brought_within [] k e a in omega (arith, within.0, within.1)

pub empty_ends : (n p : ℕ) → EndsAt [] n p → ⊥
empty_ends n p x = let within = ended_within [] n p x in omega (arith, within.0, within.1)

-- of a history with one change more, the position is the new one, or the old one has it there
new_or_old : (h : List Change) (c : Change) (k : ℕ) → (0 < k) × (k ≤ length (after_change h c))
    → (record { old : k ≤ length h; was : change_at (after_change h c) k ≡ change_at h k }) ⊎ (record { new : k ≡ suc (length h); is : change_at (after_change h c) k ≡ Some c })
new_or_old h c k within = either (cases_lt k (suc (length h)))
    (λ lt. let le : k ≤ length h = omega arith in inl (record { old = le; was = at_old h c k le }))
    (λ ge.
    let at : k ≡ suc (length h) = omega (arith, within.1, length-after_change h c) in
    inr (record { new = at; is = ap (change_at (after_change h c)) at ∙ at_new h c }))

pub end_cases : (h : List Change) (c : Change) (n p : ℕ) → EndsAt (after_change h c) n p
    → (record { old : p ≤ length h; was : EndsAt h n p }) ⊎ (record { new : p ≡ suc (length h); is : ended_by (Some c) ≡ Some n })
end_cases h c n p x = either (new_or_old h c p (ended_within (after_change h c) n p x))
    (λ old. inl (record { old = old.old; was = ap ended_by (sym old.was) ∙ x }))
    (λ new. inr (record { new = new.new; is = ap ended_by (sym new.is) ∙ x }))

pub brings_cases : (h : List Change) (c : Change) (k : ℕ) (f : Entry) → brought_by (change_at (after_change h c) k) ≡ Some f
    → (record { old : k ≤ length h; was : brought_by (change_at h k) ≡ Some f }) ⊎ (record { new : k ≡ suc (length h); is : brought_by (Some c) ≡ Some f })
brings_cases h c k f x = either (new_or_old h c k (brought_within (after_change h c) k f x))
    (λ old. inl (record { old = old.old; was = ap brought_by (sym old.was) ∙ x }))
    (λ new. inr (record { new = new.new; is = ap brought_by (sym new.is) ∙ x }))

pub attach_cases : (h : List Change) (c : Change) (f : Entry) → IsAttached (after_change h c) f
    → (record { old : f.number ≤ length h; was : IsAttached h f }) ⊎ (record { new : f.number ≡ suc (length h); is : brought_by (Some c) ≡ Some f })
attach_cases h c f x = brings_cases h c f.number f x

-- the rank, by the change
pub rank_is : (h : List Change) (n : ℕ) (x : Option Change) → change_at h n ≡ x → rank_at h n ≡ rank_by n x
unfolding rank_at
rank_is h n x is = ap (rank_by n) is

pub rank_same : (h g : List Change) (n : ℕ) → change_at h n ≡ change_at g n → rank_at h n ≡ rank_at g n
unfolding rank_at
rank_same h g n is = ap (rank_by n) is

-- the entry with a number is one
pub one_entry : (h : List Change) (e f : Entry) → IsAttached h e → IsAttached h f → e.number ≡ f.number → e ≡ f
one_entry h e f a b same = same_Some e f (sym a ∙ (ap (λ (n : ℕ). brought_by (change_at h n)) same ∙ b))

-- an end comes after the attach
pub ends_after : (h : List Change) → IsLegal h → (n p : ℕ) → EndsAt h n p → n < p
ends_after h legal n zero x = absurd (omega (arith, (ended_within h n zero x).0))
ends_after h legal n (suc p) x = let live = legal.ends_live p n x in omega (arith, live.1.begun, live.2)

-- so an entry is live as it was attached
pub live_first : (h : List Change) → IsLegal h → (e : Entry) → IsAttached h e → IsLiveAt h e.number e
live_first h legal e a = record { attached = a; begun = omega arith; unended = λ p x. ends_after h legal e.number p x }

-- an entry ends once
pub not_twice : (h : List Change) → IsLegal h → (n p q : ℕ) → EndsAt h n p → EndsAt h n q → p < q → ⊥
not_twice h legal n p zero x y lt = omega arith
not_twice h legal n p (suc q) x y lt =
    let live = legal.ends_live q n y in
    omega (arith, live.1.unended p (subst (λ (m : ℕ). EndsAt h m p) (sym live.2) x))

pub one_end : (h : List Change) → IsLegal h → (n p q : ℕ) → EndsAt h n p → EndsAt h n q → p ≡ q
one_end h legal n p q x y = grind (arith, not_twice, cases_lt p q, cases_lt q p)

-- live after k changes, so live after fewer, from the attach on
pub live_down : (h : List Change) (k j : ℕ) (e : Entry) → IsLiveAt h k e → e.number ≤ j → j ≤ k → IsLiveAt h j e
live_down h k j e live begun le = record { attached = live.attached; begun = begun; unended = λ p x. omega (arith, live.unended p x) }

-- a rank is at most the number
rank_falls : (h : List Change) → IsLegal h → (m : ℕ) → ((i : ℕ) → i ≤ m → rank_at h i ≤ i) → (x : Option Change) → change_at h (suc m) ≡ x → rank_at h (suc m) ≤ suc m
rank_falls h legal m lower None is = let own : rank_at h (suc m) ≡ suc m = rank_is h (suc m) None is in omega (arith, own)
rank_falls h legal m lower (Some (Attach e)) is = let own : rank_at h (suc m) ≡ suc m = rank_is h (suc m) (Some (Attach e)) is in omega (arith, own)
rank_falls h legal m lower (Some (Detach n)) is = let own : rank_at h (suc m) ≡ suc m = rank_is h (suc m) (Some (Detach n)) is in omega (arith, own)
rank_falls h legal m lower (Some (Replace n r e)) is =
    let live = legal.ends_live m n (ap ended_by is) in
    let le : n ≤ m = omega (arith, live.1.begun, live.2) in
    let own : rank_at h (suc m) ≡ r = rank_is h (suc m) (Some (Replace n r e)) is in
    omega (arith, own, (legal.alike m n r e live.0 is live.1 live.2).1, lower n le, le)

none_at_zero : (h : List Change) → change_at h zero ≡ None
unfolding change_at
none_at_zero h = refl

rank_upto : (h : List Change) → IsLegal h → (m i : ℕ) → i ≤ m → rank_at h i ≤ i
rank_upto h legal zero zero le = let own : rank_at h zero ≡ zero = rank_is h zero None (none_at_zero h) in omega (arith, own)
rank_upto h legal zero (suc i) le = absurd (omega arith)
rank_upto h legal (suc m) i le = either (cases_lt i (suc m))
    (λ lt. rank_upto h legal m i (omega arith))
    (λ ge.
    let at : i ≡ suc m = omega arith in
    subst (λ (n : ℕ). rank_at h n ≤ n) (sym at) (rank_falls h legal m (λ j low. rank_upto h legal m j low) (change_at h (suc m)) refl))

pub rank_low : (h : List Change) → IsLegal h → (n : ℕ) → rank_at h n ≤ n
rank_low h legal n = rank_upto h legal n n (omega arith)

-- Two live entries have two kinds and names, and two ranks.

abbrev pub AreAlike : List Change → Entry → Entry → Type 0
AreAlike h e f = (key_of e ≡ key_of f) ⊎ (rank_at h e.number ≡ rank_at h f.number)

alike_back : (h : List Change) (e f : Entry) → AreAlike h e f → AreAlike h f e
alike_back h e f same = either same (λ key. inl (sym key)) (λ rank. inr (sym rank))

-- f was brought just after j, by the change x; e was live then, and no two entries that were live at j are alike
apart_by : (h : List Change) → IsLegal h → (j k : ℕ) (e f : Entry) → IsLiveAt h k e → IsLiveAt h k f → e.number ≤ j → f.number ≡ suc j → AreAlike h e f
    → ((a b : Entry) → IsLiveAt h j a → IsLiveAt h j b → a.number < b.number → AreAlike h a b → ⊥)
    → (x : Option Change) → change_at h (suc j) ≡ x → ⊥
apart_by h legal j k e f le lf older at same none None is =
    none-some f (sym (ap brought_by is) ∙ (ap (λ (n : ℕ). brought_by (change_at h n)) (sym at) ∙ lf.attached))
apart_by h legal j k e f le lf older at same none (Some (Detach n)) is =
    none-some f (sym (ap brought_by is) ∙ (ap (λ (n : ℕ). brought_by (change_at h n)) (sym at) ∙ lf.attached))
apart_by h legal j k e f le lf older at same none (Some (Attach i)) is =
    let one : i ≡ f = same_Some i f (sym (ap brought_by is) ∙ (ap (λ (n : ℕ). brought_by (change_at h n)) (sym at) ∙ lf.attached)) in
    either same
    (λ key. legal.new_key j i e is (live_down h k j e le older (omega (arith, lf.begun))) (key ∙ ap key_of (sym one)))
    (λ rank.
    let own : rank_at h f.number ≡ suc j = ap (rank_at h) at ∙ rank_is h (suc j) (Some (Attach i)) is in
    omega (arith, own, rank, rank_low h legal e.number))
apart_by h legal j k e f le lf older at same none (Some (Replace n r i)) is =
    let one : i ≡ f = same_Some i f (sym (ap brought_by is) ∙ (ap (λ (n : ℕ). brought_by (change_at h n)) (sym at) ∙ lf.attached)) in
    let old = legal.ends_live j n (ap ended_by is) in
    let o : Entry = old.0 in
    let own = legal.alike j n r i o is old.1 old.2 in
    let ends : EndsAt h o.number (suc j) = ap ended_by is ∙ ap (λ (m : ℕ). Some m) (sym old.2) in
    let le_then : IsLiveAt h j e = live_down h k j e le older (omega (arith, lf.begun)) in
    let rank : rank_at h o.number ≡ rank_at h f.number = ap (rank_at h) old.2 ∙ (sym own.1 ∙ (sym (rank_is h (suc j) (Some (Replace n r i)) is) ∙ ap (rank_at h) (sym at))) in
    let key : key_of o ≡ key_of f = own.0 ∙ ap key_of one in
    let like : AreAlike h e o = either same (λ k. inl (k ∙ sym key)) (λ r. inr (r ∙ sym rank)) in
    either (cases_eq e.number o.number)
    (λ one. omega (arith, le.unended (suc j) (subst (λ (m : ℕ). EndsAt h m (suc j)) (sym one) ends), lf.begun))
    (λ off. either (cases_lt e.number o.number)
    (λ lt. none e o le_then old.1 lt like)
    (λ ge. none o e old.1 le_then (omega arith) (alike_back h e o like)))

apart_from : (h : List Change) → IsLegal h → (k : ℕ) (e f : Entry) → IsLiveAt h k e → IsLiveAt h k f → e.number < f.number → AreAlike h e f
    → ((j : ℕ) → suc j ≤ k → (a b : Entry) → IsLiveAt h j a → IsLiveAt h j b → a.number < b.number → AreAlike h a b → ⊥)
    → (n : ℕ) → f.number ≡ n → ⊥
apart_from h legal k e f le lf lt same none zero at = omega arith
apart_from h legal k e f le lf lt same none (suc j) at = apart_by h legal j k e f le lf (omega arith) at same (none j (omega (arith, lf.begun))) (change_at h (suc j)) refl

apart : (h : List Change) → IsLegal h → (fuel k : ℕ) → k < fuel → (e f : Entry) → IsLiveAt h k e → IsLiveAt h k f → e.number < f.number → AreAlike h e f → ⊥
apart h legal zero k low e f le lf lt same = omega arith
apart h legal (suc fuel) k low e f le lf lt same =
    apart_from h legal k e f le lf lt same (λ j less a b la lb older alike. apart h legal fuel j (omega arith) a b la lb older alike) f.number refl

one_alike : (h : List Change) → IsLegal h → (k : ℕ) (e f : Entry) → IsLiveAt h k e → IsLiveAt h k f → AreAlike h e f → e ≡ f
one_alike h legal k e f le lf same = either (cases_eq e.number f.number)
    (λ one. one_entry h e f le.attached lf.attached one)
    (λ off. absurd (either (cases_lt e.number f.number)
    (λ lt. apart h legal (suc k) k (omega arith) e f le lf lt same)
    (λ ge. apart h legal (suc k) k (omega arith) f e lf le (omega arith) (alike_back h e f same))))

-- two live entries with one key are one
pub one_live : (h : List Change) → IsLegal h → (k : ℕ) (e f : Entry) → IsLiveAt h k e → IsLiveAt h k f → key_of e ≡ key_of f → e ≡ f
one_live h legal k e f le lf same = one_alike h legal k e f le lf (inl same)

-- and so are two with one rank
pub one_rank : (h : List Change) → IsLegal h → (k : ℕ) (e f : Entry) → IsLiveAt h k e → IsLiveAt h k f → rank_at h e.number ≡ rank_at h f.number → e ≡ f
one_rank h legal k e f le lf same = one_alike h legal k e f le lf (inr same)

-- Whoever is in a place now was there before, or another of the same kind and name was.

-- an entry that was live after k changes has e's rank, and its kind and name
pub record Stood (h : List Change) (k : ℕ) (e : Entry) : Type 0 where
  pub entry : Entry
  pub live : IsLiveAt h k entry
  pub rank : rank_at h entry.number ≡ rank_at h e.number
  pub key : key_of entry ≡ key_of e

stood_by : (h : List Change) → IsLegal h → (j k : ℕ) (e : Entry) → IsAttached h e → e.number ≡ suc j → rank_at h e.number ≤ k → k ≤ j
    → ((o : Entry) → IsLiveAt h j o → rank_at h o.number ≤ k → Stood h k o) → (x : Option Change) → change_at h (suc j) ≡ x → Stood h k e
stood_by h legal j k e att at low before older None is = absurd (none-some e (sym (ap brought_by is) ∙ (ap (λ (n : ℕ). brought_by (change_at h n)) (sym at) ∙ att)))
stood_by h legal j k e att at low before older (Some (Detach n)) is = absurd (none-some e (sym (ap brought_by is) ∙ (ap (λ (n : ℕ). brought_by (change_at h n)) (sym at) ∙ att)))
stood_by h legal j k e att at low before older (Some (Attach i)) is =
    let own : rank_at h e.number ≡ suc j = ap (rank_at h) at ∙ rank_is h (suc j) (Some (Attach i)) is in
    absurd (omega (arith, own, low, before))
stood_by h legal j k e att at low before older (Some (Replace n r i)) is =
    let one : i ≡ e = same_Some i e (sym (ap brought_by is) ∙ (ap (λ (n : ℕ). brought_by (change_at h n)) (sym at) ∙ att)) in
    let old = legal.ends_live j n (ap ended_by is) in
    let own = legal.alike j n r i old.0 is old.1 old.2 in
    let rank : rank_at h old.0.number ≡ rank_at h e.number = ap (rank_at h) old.2 ∙ (sym own.1 ∙ (sym (rank_is h (suc j) (Some (Replace n r i)) is) ∙ ap (rank_at h) (sym at))) in
    let was : Stood h k old.0 = older old.0 old.1 (omega (arith, rank, low)) in
    record { entry = was.entry; live = was.live; rank = was.rank ∙ rank; key = was.key ∙ (own.0 ∙ ap key_of one) }

stood_at : (h : List Change) → IsLegal h → (m k : ℕ) (e : Entry) → IsLiveAt h m e → rank_at h e.number ≤ k → k ≤ m
    → ((j : ℕ) → suc j ≤ m → k ≤ j → (o : Entry) → IsLiveAt h j o → rank_at h o.number ≤ k → Stood h k o) → (n : ℕ) → e.number ≡ n → Stood h k e
stood_at h legal m k e live low le older zero at = absurd (omega (arith, (attached_within h e live.attached).0))
stood_at h legal m k e live low le older (suc j) at = either (cases_lt k (suc j))
    (λ lt. stood_by h legal j k e live.attached at low (omega arith) (older j (omega (arith, live.begun)) (omega arith)) (change_at h (suc j)) refl)
    (λ ge. record { entry = e; live = live_down h m k e live (omega arith) le; rank = refl; key = refl })

stood_from : (h : List Change) → IsLegal h → (fuel m k : ℕ) → m < fuel → (e : Entry) → IsLiveAt h m e → rank_at h e.number ≤ k → k ≤ m → Stood h k e
stood_from h legal zero m k few e live low le = absurd (omega arith)
stood_from h legal (suc fuel) m k few e live low le =
    stood_at h legal m k e live low le (λ j less above o lo down. stood_from h legal fuel j k (omega arith) o lo down above) e.number refl

pub stood : (h : List Change) → IsLegal h → (m k : ℕ) (e : Entry) → IsLiveAt h m e → rank_at h e.number ≤ k → k ≤ m → Stood h k e
stood h legal m k e live low le = stood_from h legal (suc m) m k (omega arith) e live low le

-- all entries of one rank have one key
pub rank_key : (h : List Change) → IsLegal h → (e f : Entry) → IsAttached h e → IsAttached h f → rank_at h e.number ≡ rank_at h f.number → key_of e ≡ key_of f
rank_key h legal e f ae af same =
    let r : ℕ = rank_at h e.number in
    let a : Stood h r e = stood h legal e.number r e (live_first h legal e ae) (omega arith) (rank_low h legal e.number) in
    let b : Stood h r f = stood h legal f.number r f (live_first h legal f af) (omega (arith, same)) (omega (arith, same, rank_low h legal f.number)) in
    let one : a.entry ≡ b.entry = one_rank h legal r a.entry b.entry a.live b.live (a.rank ∙ (same ∙ sym b.rank)) in
    sym a.key ∙ (ap key_of one ∙ b.key)

-- just after the detach of e none is live with its key
pub none_at_end : (h : List Change) → IsLegal h → (p : ℕ) (e f : Entry) → IsAttached h e → change_at h p ≡ Some (Detach e.number) → IsLiveAt h p f → key_of f ≡ key_of e → ⊥
none_at_end h legal zero e f att x lf same = omega (arith, (at_within h zero (Detach e.number) x).0)
none_at_end h legal (suc p) e f att x lf same =
    let live = legal.ends_live p e.number (ap ended_by x) in
    let is : live.0 ≡ e = one_entry h live.0 e live.1.attached att live.2 in
    let le : IsLiveAt h p e = subst (IsLiveAt h p) is live.1 in
    either (cases_lt f.number (suc p))
    (λ lt.
    let one : f ≡ e = one_live h legal p f e (live_down h (suc p) p f lf (omega arith) (omega arith)) le same in
    omega (arith, lf.unended (suc p) (ap ended_by x ∙ ap (λ (g : Entry). Some g.number) (sym one))))
    (λ ge.
    let at : suc p ≡ f.number = omega (arith, lf.begun) in
    none-some f (sym (ap brought_by x) ∙ (ap (λ (n : ℕ). brought_by (change_at h n)) at ∙ lf.attached)))

-- What one more change keeps.
pub ends_old : (h : List Change) (c : Change) (n p : ℕ) → EndsAt h n p → EndsAt (after_change h c) n p
ends_old h c n p x = ap ended_by (at_old h c p (ended_within h n p x).1) ∙ x

pub attached_old : (h : List Change) (c : Change) (e : Entry) → IsAttached h e → IsAttached (after_change h c) e
attached_old h c e a = ap brought_by (at_old h c e.number (attached_within h e a).1) ∙ a

pub attached_was : (h : List Change) (c : Change) (e : Entry) → IsAttached (after_change h c) e → e.number ≤ length h → IsAttached h e
attached_was h c e a le = ap brought_by (sym (at_old h c e.number le)) ∙ a

pub live_old : (h : List Change) (c : Change) (k : ℕ) (e : Entry) → k ≤ length h → IsLiveAt h k e → IsLiveAt (after_change h c) k e
live_old h c k e le live = record {
  attached = attached_old h c e live.attached;
  begun = live.begun;
  unended = λ p x. either (end_cases h c e.number p x) (λ old. live.unended p old.was) (λ new. omega (arith, new.new, le));
}

pub live_was : (h : List Change) (c : Change) (k : ℕ) (e : Entry) → k ≤ length h → IsLiveAt (after_change h c) k e → IsLiveAt h k e
live_was h c k e le live = record {
  attached = attached_was h c e live.attached (omega (arith, live.begun));
  begun = live.begun;
  unended = λ p x. live.unended p (ends_old h c e.number p x);
}

pub rank_old : (h : List Change) (c : Change) (n : ℕ) → n ≤ length h → rank_at (after_change h c) n ≡ rank_at h n
rank_old h c n le = rank_same (after_change h c) h n (at_old h c n le)

-- the rank of what is live at a point of the old history
pub rank_then : (h : List Change) (c : Change) (k : ℕ) (e : Entry) → k ≤ length h → e.number ≤ k → rank_at (after_change h c) e.number ≡ rank_at h e.number
rank_then h c k e le begun = rank_old h c e.number (omega (arith, le, begun))

-- What one more change of the history keeps, whichever it is.

pub leads_old : (h : List Change) (c : Change) (k n x : ℕ) → k ≤ length h → Leads h k n x → Leads (after_change h c) k n x
leads_old h c k n zero le (To_end none) = To_end (λ f live lt. none f (live_was h c k f le live) (omega (arith, lt, rank_then h c k f le live.begun)))
leads_old h c k n _ le (To_entry e live lt most) = To_entry e (live_old h c k e le live) (omega (arith, lt, rank_then h c k e le live.begun))
    (λ f lf low. let rank = rank_then h c k f le lf.begun in omega (arith, rank, rank_then h c k e le live.begun, most f (live_was h c k f le lf) (omega (arith, low, rank))))

pub hold_was : (h : List Change) (c : Change) (b : ℕ) (e : Entry) → MayHold (after_change h c) b e → e.number ≤ length h → MayHold h b e
hold_was h c b e hold le = record { attached = attached_was h c e hold.attached le; unended = λ p x. hold.unended p (ends_old h c e.number p x) }

pub hold_old : (h : List Change) (c : Change) (b : ℕ) (e : Entry) → b ≤ length h → MayHold h b e → MayHold (after_change h c) b e
hold_old h c b e le hold = record {
  attached = attached_old h c e hold.attached;
  unended = λ p x. either (end_cases h c e.number p x) (λ old. hold.unended p old.was) (λ new. omega (arith, new.new, le));
}

pub stands_old : (h : List Change) (c : Change) (from to t : ℕ) (e : Entry) → from ≤ length h → StandsOn h from to t e → StandsOn (after_change h c) from to t e
stands_old h c from to t e le on = record {
  attached = attached_old h c e on.attached;
  at = on.at;
  begun = on.begun;
  unended = λ p x. either (end_cases h c e.number p x) (λ old. on.unended p old.was) (λ new. omega (arith, new.new, le));
}

pub below_old : (h : List Change) (c : Change) (from to : ℕ) (key : Key) (n : ℕ) → from ≤ length h → to ≤ length h → AllBelow h from to key n → AllBelow (after_change h c) from to key n
below_old h c from to key n le ends below f g lf lg rank same =
    let rf = rank_then h c from f le lf.begun in
    let rg = rank_then h c to g ends lg.begun in
    omega (arith, rf, below f g (live_was h c from f le lf) (live_was h c to g ends lg) (sym rg ∙ (rank ∙ rf)) same)

-- the same at the rank of an entry where a search stands
at_old_rank : (h : List Change) (c : Change) (from to t : ℕ) (key : Key) (e : Entry) → from ≤ length h → to ≤ length h → StandsOn h from to t e → AllBelow h from to key (rank_at h e.number)
    → AllBelow (after_change h c) from to key (rank_at (after_change h c) e.number)
at_old_rank h c from to t key e le ends on below =
    subst (λ (r : ℕ). AllBelow (after_change h c) from to key r) (sym (rank_then h c to e ends on.begun)) (below_old h c from to key (rank_at h e.number) le ends below)

past_old_rank : (h : List Change) (c : Change) (from to t : ℕ) (key : Key) (e : Entry) → from ≤ length h → to ≤ length h → StandsOn h from to t e → AllBelow h from to key (suc (rank_at h e.number))
    → AllBelow (after_change h c) from to key (suc (rank_at (after_change h c) e.number))
past_old_rank h c from to t key e le ends on below =
    subst (λ (r : ℕ). AllBelow (after_change h c) from to key (suc r)) (sym (rank_then h c to e ends on.begun)) (below_old h c from to key (suc (rank_at h e.number)) le ends below)

pub place_old : (h : List Change) (c : Change) (from to : ℕ) (key : Key) (place : SearchPlace) → from ≤ length h → to ≤ length h → PlaceHolds h from to key place
    → PlaceHolds (after_change h c) from to key place
place_old h c from to key AtHead le ends p = tt
place_old h c from to key (AtNext t) le ends p = (p.0, stands_old h c from to t p.0 le p.1, at_old_rank h c from to t key p.0 le ends p.1 p.2)
place_old h c from to key (AtNumber t) le ends p = (p.0, stands_old h c from to t p.0 le p.1, past_old_rank h c from to t key p.0 le ends p.1 p.2)
place_old h c from to key (AtKind t n) le ends p = (p.0, stands_old h c from to t p.0 le p.1, past_old_rank h c from to t key p.0 le ends p.1 p.2, p.3)
place_old h c from to key (AtHigh t n k) le ends p = (p.0, stands_old h c from to t p.0 le p.1, past_old_rank h c from to t key p.0 le ends p.1 p.2, p.3, p.4)
place_old h c from to key (AtLow t n k x) le ends p = (p.0, stands_old h c from to t p.0 le p.1, past_old_rank h c from to t key p.0 le ends p.1 p.2, p.3, p.4, p.5)
place_old h c from to key (AtValue t n) le ends p = (p.0, stands_old h c from to t p.0 le p.1, p.2, p.3)

pub sections_old : (z : Settings) (h : List Change) (x : Change) (section : List ℕ) (begins : List (Option ℕ)) (depths seen : List ℕ)
    → SectionsShow z h section begins depths seen → SectionsShow z (after_change h x) section begins depths seen
sections_old z h x section begins depths seen s = grind (arith, length-after_change)

pub searches_old : (z : Settings) (h : List Change) (x : Change) (section : List ℕ) (begins : List (Option ℕ)) (depths seen : List ℕ) (searches : List (Option Search))
    → SectionsShow z h section begins depths seen → SearchesHold h begins seen searches → SearchesHold (after_change h x) begins seen searches
searches_old z h x section begins depths seen searches s hold c q is =
    let was : SearchHolds h (get_or begins c None) (get_or seen c 0) q = hold c q is in
    record {
      begun = was.begun;
      started = was.started;
      stands = place_old h x q.start (get_or seen c 0) q.key q.place (omega (arith, was.started, s.prefix c)) (s.prefix c) was.stands;
    }

pub found_old : (z : Settings) (h : List Change) (x : Change) (section : List ℕ) (begins : List (Option ℕ)) (depths seen : List ℕ) (found : List (Option Entry))
    → SectionsShow z h section begins depths seen → FoundHold h begins found → FoundHold (after_change h x) begins found
found_old z h x section begins depths seen found s hold c e is =
    let was : (b : ℕ) × (get_or begins c None ≡ Some b) × MayHold h b e = hold c e is in
    (was.0, was.1, hold_old h x was.0 e (omega (arith, s.begun c was.0 was.1, s.prefix c)) was.2)

-- What a walk over links finds is lawful.

-- What a link tells that leads to the entry with the greatest rank below n that was live at some
-- point. The walk goes from `from`, and the pass ends at `to` now.
pub data Ahead (h : List Change) (from to : ℕ) (key : Key) (n : ℕ) : ℕ → Type 0 where
  No_more : AllBelow h from to key 0 → Ahead h from to key n 0
  One_more : (e : Entry) → StandsOn h from to e.slot e → rank_at h e.number < n → AllBelow h from to key (suc (rank_at h e.number)) → Ahead h from to key n (suc e.slot)

-- n ends at or before k, or it doesn't
abbrev pub Ended : List Change → ℕ → ℕ → Type 0
Ended h n k = (p : ℕ) × (p ≤ k) × EndsAt h n p

abbrev pub Unended : List Change → ℕ → ℕ → Type 0
Unended h n k = (p : ℕ) → EndsAt h n p → k < p

ends_here : (h : List Change) (n k : ℕ) (x : Option ℕ) → ended_by (change_at h k) ≡ x → EndsAt h n k ⊎ (EndsAt h n k → ⊥)
ends_here h n k None is = inr (λ ends. none-some n (sym is ∙ ends))
ends_here h n k (Some m) is = either (cases_eq m n) (λ same. inl (is ∙ ap (λ (i : ℕ). Some i) same)) (λ off. inr (λ ends. off (same_Some m n (sym is ∙ ends))))

pub end_by : (h : List Change) (n k : ℕ) → Ended h n k ⊎ Unended h n k
end_by h n zero = inr (λ p x. (ended_within h n p x).0)
end_by h n (suc k) = either (end_by h n k)
    (λ e. inl (e.0, omega (arith, e.1), e.2))
    (λ u. either (ends_here h n (suc k) (ended_by (change_at h (suc k))) refl)
    (λ y. inl (suc k, omega arith, y))
    (λ no. inr (λ (p : ℕ) (x : EndsAt h n p). grind (arith, cases_eq p (suc k), u p x, no))))

-- two keys are one, or they aren't
pub cases_key : (k l : Key) → (k ≡ l) ⊎ (k ≡ l → ⊥)
cases_key k l = grind (arith, cases_eq k.name.high l.name.high, cases_eq k.name.low l.name.low)

-- an entry with the key is live after k changes, or none is, among the first m positions
abbrev pub Looked : List Change → ℕ → Key → ℕ → Type 0
Looked h k key m = ((e : Entry) × IsLiveAt h k e × (key_of e ≡ key)) ⊎ ((e : Entry) → IsLiveAt h k e → e.number ≤ m → key_of e ≡ key → ⊥)

-- the entry attached at m is live after k changes and has the key, or it isn't so
looked_at : (h : List Change) → IsLegal h → (k : ℕ) (key : Key) (m : ℕ) (x : Option Entry) → brought_by (change_at h m) ≡ x
    → ((e : Entry) × IsLiveAt h k e × (key_of e ≡ key)) ⊎ ((e : Entry) → IsLiveAt h k e → e.number ≡ m → key_of e ≡ key → ⊥)
looked_at h legal k key m None is = inr (λ (f : Entry) (live : IsLiveAt h k f) (at : f.number ≡ m) (same : key_of f ≡ key).
    none-some f (sym is ∙ (ap (λ (n : ℕ). brought_by (change_at h n)) (sym at) ∙ live.attached)))
looked_at h legal k key m (Some e) is =
    let number : e.number ≡ m = legal.numbered m e is in
    let att : IsAttached h e = ap (λ (n : ℕ). brought_by (change_at h n)) number ∙ is in
    let one : (f : Entry) → IsLiveAt h k f → f.number ≡ m → f ≡ e = λ f live at. one_entry h f e live.attached att (at ∙ sym number) in
    either (cases_key (key_of e) key)
    (λ same. either (end_by h e.number k)
    (λ ended. inr (λ (f : Entry) (live : IsLiveAt h k f) (at : f.number ≡ m) (same : key_of f ≡ key).
    omega (arith, live.unended ended.0 (subst (λ (n : ℕ). EndsAt h n ended.0) (number ∙ sym at) ended.2), ended.1)))
    (λ un. either (cases_lt m (suc k))
    (λ le. inl (e, record { attached = att; begun = omega arith; unended = un }, same))
    (λ gt. inr (λ (f : Entry) (live : IsLiveAt h k f) (at : f.number ≡ m) (same : key_of f ≡ key). omega (arith, live.begun)))))
    (λ other. inr (λ (f : Entry) (live : IsLiveAt h k f) (at : f.number ≡ m) (same : key_of f ≡ key).
    other (ap (key_of) (sym (one f live at)) ∙ same)))

look_by : (h : List Change) → IsLegal h → (k : ℕ) (key : Key) (m : ℕ) → Looked h k key m
look_by h legal k key zero = inr (λ (e : Entry) (live : IsLiveAt h k e) (le : e.number ≤ 0) (same : key_of e ≡ key).
    omega (arith, (attached_within h e live.attached).0))
look_by h legal k key (suc m) = either (look_by h legal k key m)
    (λ found. inl found)
    (λ none. either (looked_at h legal k key (suc m) (brought_by (change_at h (suc m))) refl)
    (λ found. inl found)
    (λ here. inr (λ (e : Entry) (live : IsLiveAt h k e) (le : e.number ≤ suc m) (same : key_of e ≡ key). grind (arith, cases_eq e.number (suc m), here e live, none e live))))

-- The entry that a search found is a lawful answer.
pub found_lawful : (h : List Change) → IsLegal h → (from to t : ℕ) (e : Entry) (key : Key) → from ≤ to → StandsOn h from to t e → key_of e ≡ key → IsLawful h from to key (Some e)
found_lawful h legal from to t e key le on same = either (cases_lt e.number (suc from))
    (λ lt. record { point = from; from_on = omega arith; up_to = le; answered = grind arith })
    (λ ge. record { point = e.number; from_on = omega arith; up_to = on.begun; answered = grind (arith, ends_after h legal e.number) })

-- What becomes of the place of an entry: it is taken over by others with its key, up to a detach.

pub record IsGone (h : List Change) (from to : ℕ) (key : Key) : Type 0 where
  pub entry : Entry
  pub position : ℕ
  pub later : from < position
  pub by_then : position ≤ to
  pub detach : change_at h position ≡ Some (Detach entry.number)
  pub attached : IsAttached h entry
  pub same : key_of entry ≡ key

pub stays : (h : List Change) (k : ℕ) (g : Entry) → IsLiveAt h k g → (EndsAt h g.number (suc k) → ⊥) → IsLiveAt h (suc k) g
stays h k g live off = record {
  attached = live.attached;
  begun = omega (arith, live.begun);
  unended = λ p x. either (cases_eq p (suc k)) (λ same. absurd (off (subst (EndsAt h g.number) same x))) (λ other. omega (arith, live.unended p x, other));
}

-- by the next change the place is kept, or its entry is detached
next_by : (h : List Change) → IsLegal h → (k : ℕ) (g : Entry) → IsLiveAt h k g → (x : Option Change) → change_at h (suc k) ≡ x → Stood h (suc k) g ⊎ (change_at h (suc k) ≡ Some (Detach g.number))
next_by h legal k g live None is = inl (record { entry = g; live = stays h k g live (λ ends. none-some g.number (sym (ap ended_by is) ∙ ends)); rank = refl; key = refl })
next_by h legal k g live (Some (Attach i)) is = inl (record { entry = g; live = stays h k g live (λ ends. none-some g.number (sym (ap ended_by is) ∙ ends)); rank = refl; key = refl })
next_by h legal k g live (Some (Detach n)) is = either (cases_eq n g.number)
    (λ same. inr (is ∙ ap (λ (m : ℕ). Some (Detach m)) same))
    (λ off. inl (record { entry = g; live = stays h k g live (λ ends. off (same_Some n g.number (sym (ap ended_by is) ∙ ends))); rank = refl; key = refl }))
next_by h legal k g live (Some (Replace n r i)) is = either (cases_eq n g.number)
    (λ same.
    let at : i.number ≡ suc k = legal.numbered (suc k) i (ap brought_by is) in
    let att : IsAttached h i = ap (λ (m : ℕ). brought_by (change_at h m)) at ∙ ap brought_by is in
    let own = legal.alike k n r i g is live (sym same) in
    inl (record {
      entry = i;
      live = subst (λ (m : ℕ). IsLiveAt h m i) at (live_first h legal i att);
      rank = ap (rank_at h) at ∙ (rank_is h (suc k) (Some (Replace n r i)) is ∙ (own.1 ∙ ap (rank_at h) same));
      key = sym own.0;
    }))
    (λ off. inl (record { entry = g; live = stays h k g live (λ ends. off (same_Some n g.number (sym (ap ended_by is) ∙ ends))); rank = refl; key = refl }))

pub stands_on : (h : List Change) → IsLegal h → (from to : ℕ) (f : Entry) → IsLiveAt h from f → from ≤ to → Stood h to f ⊎ IsGone h from to (key_of f)
stands_on h legal from zero f live le = inl (record { entry = f; live = subst (λ (m : ℕ). IsLiveAt h m f) (omega arith) live; rank = refl; key = refl })
stands_on h legal from (suc to) f live le = either (cases_lt to from)
    (λ lt. inl (record { entry = f; live = subst (λ (m : ℕ). IsLiveAt h m f) (omega arith) live; rank = refl; key = refl }))
    (λ ge. either (stands_on h legal from to f live ge)
    (λ on. either (next_by h legal to on.entry on.live (change_at h (suc to)) refl)
    (λ next. inl (record { entry = next.entry; live = next.live; rank = next.rank ∙ on.rank; key = next.key ∙ on.key }))
    (λ detach. inr (record { entry = on.entry; position = suc to; later = omega arith; by_then = omega arith; detach = detach; attached = on.live.attached; same = on.key })))
    (λ gone. inr (record { entry = gone.entry; position = gone.position; later = gone.later; by_then = omega (arith, gone.by_then); detach = gone.detach; attached = gone.attached; same = gone.same })))

-- That a search came to the end is a lawful answer.
pub missed_lawful : (h : List Change) → IsLegal h → (from to : ℕ) (key : Key) → from ≤ to → AllBelow h from to key 0 → IsLawful h from to key None
missed_lawful h legal from to key le below = either (look_by h legal from key from)
    (λ found. either (stands_on h legal from to found.0 found.1 le)
    (λ on. absurd (omega (arith, below found.0 on.entry found.1 on.live on.rank found.2)))
    (λ gone. record {
      point = gone.position;
      from_on = omega (arith, gone.later);
      up_to = gone.by_then;
      answered = λ f live same. none_at_end h legal gone.position gone.entry f gone.attached gone.detach live (same ∙ (sym found.2 ∙ sym gone.same));
    }))
    (λ none. record {
      point = from;
      from_on = omega arith;
      up_to = le;
      answered = λ f live same. none f live live.begun same;
    })

-- a result that was right at one point only
pub find_exact : (h : List Change) (k : ℕ) (key : Key) (answer : Option Entry) → IsLawful h k k key answer → IsLookup h k key answer
find_exact h k key answer lawful = grind arith

-- where a link leads at a point k of the walk, and what isn't gone past
pub step_ahead : (h : List Change) → IsLegal h → (from k to n : ℕ) (key : Key) (x : ℕ) → from ≤ k → k ≤ to → AllBelow h from to key n → Leads h k n x → Ahead h from to key n x
step_ahead h legal from k to n key zero lo hi below (To_end none) = No_more (λ f g lf lg rank same.
    let s : Stood h k g = stood h legal to k g lg (omega (arith, rank, rank_low h legal f.number, lf.begun, lo)) hi in
    absurd (none s.entry s.live (omega (arith, s.rank, rank, below f g lf lg rank same))))
step_ahead h legal from k to n key _ lo hi below (To_entry e live lt most) =
    One_more e (record { attached = live.attached; at = refl; begun = omega (arith, live.begun, hi); unended = λ p x. omega (arith, live.unended p x, lo) }) lt
    (λ f g lf lg rank same.
    let s : Stood h k g = stood h legal to k g lg (omega (arith, rank, rank_low h legal f.number, lf.begun, lo)) hi in
    let m : rank_at h s.entry.number ≤ rank_at h e.number = most s.entry s.live (omega (arith, s.rank, rank, below f g lf lg rank same)) in
    omega (arith, m, s.rank, rank))

-- the pass grows
pub all_below_later : (h : List Change) → IsLegal h → (from to later : ℕ) (key : Key) (n : ℕ) → from ≤ to → to ≤ later → AllBelow h from to key n → AllBelow h from later key n
all_below_later h legal from to later key n lo le below f g lf lg rank same =
    let s : Stood h to g = stood h legal later to g lg (omega (arith, rank, rank_low h legal f.number, lf.begun, lo)) le in
    below f s.entry lf s.live (s.rank ∙ rank) same
