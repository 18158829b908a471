-- What a CPU's log says of its passive references: what it is trying is in the core's hand, and it
-- has exactly as many references to each entry as are counted.
use Rattle.std.proofs.Common.{◌≡◌, ◌≢◌, ◌⊎◌, inl, inr, ⊎_elim, ℕ, suc, ◌+◌, ◌-◌, ◌==◌, ◌<◌, Bool, true, false, cond, List, [], ◌∷◌, length, set, get_or, get_or-set_same, get_or-set_other, Option, Some, None, eq-eqb, ne_eqb, refl, sym, ap, ◌∙◌, subst, arith}
use Rattle.std.proofs.lemmas.Bool.{and_parts, cases_eq, eqb-true}
use Rattle.cpu_words.specs.Types.{Entry, Event, PassiveAdd, PassiveSub, Try, Confirm, TakeBack, Reply, Slot, Live, Retired, Hand, Empty, Taking, Giving, Back, Trying}
use Rattle.registry_values.specs.Common.{slot_at, slot_of}
use Rattle.protocol.specs.Common.{State, hand_at, passive_at, trying_at, trying_of, is_idle, put, Holds, Outcome, step, state_after, number_in, passive_in, after_event, occupant_of}
use Rattle.protocol.proofs.Made.{Made, AddsPassive, SubsPassive, Tries, ConfirmsTry, TakesBack, Counts, Splits, Joins, CountsDown, FindsCollected, SplitsBack, made}
use Rattle.protocol.proofs.Cells.{slot_number}
use Rattle.protocol.proofs.keeps.CountKeeps.{confirm_tells, live_tells, may_try_tells, passive_place, trying_tells}
use Rattle.protocol.proofs.keeps.Keeping.{step_holds}
use Rattle.protocol.proofs.keeps.Marking.{shifted_back, shifted_try, trying_stays}
use Rattle.protocol.proofs.keeps.SectionKeeps.{idle_tells}
use Rattle.protocol.proofs.model.RefiningEntries.{At, own_slot, passive_moved}
use Rattle.protocol.proofs.model.RefiningReferences.{confirmed, passive_put, passives_of}
use Rattle.protocol.proofs.model.RefiningSections.{put_twice, unwritten}
use Rattle.protocol.proofs.runs.Headline.{obeys_laws, vacant_number}
use Rattle.protocol.proofs.runs.Reuse.{number_is, goes_or_stays}
use Rattle.cpu_words.specs.Common.{LogItem, by_number, maker, the_cpu, names, IsSeatOf, AreByOwn, part, passive_after, passive_from, tried_after}
use Rattle.cpu_words.proofs.logs.Loads.{part_same, part_off}
use Rattle.cpu_words.proofs.logs.Runs.{Follows}

-- By the state: what the CPU c is trying, and how many passive references it has to n

abbrev pub tried_in : Hand → Option ℕ
tried_in Empty = None
tried_in (Taking n) = None
tried_in (Giving n id) = None
tried_in (Back n id) = None
tried_in (Trying t n) = Some n

abbrev pub tried_of : State → ℕ → Option ℕ
tried_of s c = tried_in (hand_at s c)

-- One event: what the CPU c tries after it, and how many references to n it has, where it had k

abbrev try_next : ℕ → Event → Option ℕ → Option ℕ
try_next c (Try d t n) x = cond (d == c) (Some n) x
try_next c (Confirm d) x = cond (d == c) None x
try_next c (TakeBack d) x = cond (d == c) None x
try_next c e x = x

abbrev next : ℕ → ℕ → Option ℕ → Event → ℕ → ℕ
next c n x (PassiveAdd d m) k = cond (d == c) (cond (m == n) (suc k) k) k
next c n x (PassiveSub d m) k = cond (d == c) (cond (m == n) (k - 1) k) k
next c n x (Confirm d) k = cond (d == c) (cond (names x n) (suc k) k) k
next c n x e k = k

-- of another CPU, or to another number, it is none
cond_off : (a b : Bool) (x k : ℕ) → (a ≡ true → b ≡ true → ⊥) → cond a (cond b x k) k ≡ k
cond_off true true x k off = absurd (off refl refl)
cond_off true false x k off = refl
cond_off false b x k off = refl

cond_on : (a b : Bool) (x k : ℕ) → a ≡ true → b ≡ true → cond a (cond b x k) k ≡ x
cond_on a b x k first second = λ i. cond (first i) (cond (second i) x k) k

cond_as : {X : Type 0} (b : Bool) (x y k : X) → (b ≡ true → x ≡ y) → cond b x k ≡ cond b y k
cond_as true x y k same = same refl
cond_as false x y k same = refl

-- What is tried

-- a place of a list that is written shows what was written
pub set_shows : {X A : Type 0} (f : X → A) (x : X) (xs : List X) (d c : ℕ) (y : X) → d < length xs → f (get_or (set xs d y) c x) ≡ cond (d == c) (f y) (f (get_or xs c x))
set_shows f x xs d c y lt = ⊎_elim
    (λ (same : d ≡ c). ap (λ (i : ℕ). f (get_or (set xs d y) i x)) (sym same)
    ∙ (ap f (get_or-set_same xs d y x lt) ∙ sym (ap (λ (b : Bool). cond b (f y) (f (get_or xs c x))) (eq-eqb d c same))))
    (λ (off : d ≢ c). ap f (get_or-set_other xs d c y x (λ same. off (sym same)))
    ∙ sym (ap (λ (b : Bool). cond b (f y) (f (get_or xs c x))) (ne_eqb d c off)))
    (cases_eq d c)

tries_on : (s n : State) (e : Event) (r : Reply) (c : ℕ) → Holds s → Made s e n r → tried_of n c ≡ try_next c e (tried_of s c)
tries_on s _ _ _ c on (Tries d u j may) = set_shows tried_in Empty s.hands d c (Trying u j) (omega (arith, (idle_tells s d on (may_try_tells s d u j may).0).0, on.shape.hands))
tries_on s _ _ _ c on (ConfirmsTry d u j hand may) = set_shows tried_in Empty s.hands d c Empty (omega (arith, (trying_tells s d u j on hand).0, on.shape.hands))
tries_on s _ _ _ c on (TakesBack d u j hand) = set_shows tried_in Empty s.hands d c Empty (omega (arith, (trying_tells s d u j on hand).0, on.shape.hands))
tries_on s _ _ _ c on (Counts d u e found at may) = sym (unwritten tried_in Empty s.hands d (Taking e.number) (ap tried_in (idle_tells s d on (and_parts (is_idle s d) _ may).0).1) c)
tries_on s _ _ _ c on (Splits d j hand) = sym (unwritten tried_in Empty s.hands d Empty (ap tried_in hand) c)
tries_on s _ _ _ c on (Joins d j id standing idle) = sym (unwritten tried_in Empty s.hands d (Giving j id) (ap tried_in (idle_tells s d on idle).1) c)
tries_on s _ _ _ c on (CountsDown d j id u hand at same) = sym (unwritten tried_in Empty s.hands d Empty (ap tried_in hand) c)
tries_on s _ _ _ c on (FindsCollected d j id hand) = sym (unwritten tried_in Empty s.hands d (Back j id) (ap tried_in hand) c)
tries_on s _ _ _ c on (SplitsBack d j id hand) = sym (unwritten tried_in Empty s.hands d Empty (ap tried_in hand) c)
tries_on s _ _ _ c on _ = refl

-- How many references there are

-- of a number that another has in its place
put_shows : (f : ℕ → ℕ → ℕ) (h : ℕ → ℕ) (d j v : ℕ) → v ≡ h (f d j) → (c m : ℕ) → put f d (put (f d) j v) c m ≡ cond (d == c) (cond (j == m) (h (f c m)) (f c m)) (f c m)
put_shows f h d j v is = put_twice f (λ (c : ℕ) (m : ℕ). cond (d == c) (cond (j == m) (h (f c m)) (f c m)) (f c m)) d j v
    (is ∙ sym (cond_on (d == d) (j == j) (h (f d j)) (f d j) (eq-eqb d d refl) (eq-eqb j j refl)))
    (λ m off. sym (cond_off (d == d) (j == m) (h (f d m)) (f d m) (λ _ b. off (sym (eqb-true j m b)))))
    (λ c m off. sym (cond_off (d == c) (j == m) (h (f c m)) (f c m) (λ a _. off (sym (eqb-true d c a)))))

-- words and what is tried change by the same
shifted : (passive words : List (List ℕ)) (hands others : List Hand) (c : ℕ) (o : Option ℕ)
    → ((t : ℕ) → passive_at words c t + trying_at hands c t ≡ passive_at passive c t + trying_at others c t) → passive_in words others c o ≡ passive_in passive hands c o
shifted passive words hands others c None both = refl
shifted passive words hands others c (Some t) both = omega (arith, both t)

-- a hand that tries nothing, where it did before
unshifted : (s : State) (d c : ℕ) (h : Hand) (o : Option ℕ) → ((u : ℕ) → trying_of u h ≡ trying_at s.hands d u) → passive_in s.passive (set s.hands d h) c o ≡ passive_in s.passive s.hands c o
unshifted s d c h o same = shifted s.passive s.passive s.hands (set s.hands d h) c o (λ t. omega (arith, trying_stays s.hands d h same c t))

counts_on : (s n : State) (e : Event) (r : Reply) (c m : ℕ) → Holds s → Made s e n r → passive_in n.passive n.hands c (slot_of n.slots m) ≡ next c m (tried_of s c) e (passive_in s.passive s.hands c (slot_of n.slots m))
counts_on s _ _ _ c m on (AddsPassive d j u at may) =
    let p = idle_tells s d on (and_parts (is_idle s d) _ may).0 in
    let untried : trying_at s.hands d u ≡ 0 = ap (trying_of u) p.1 in
    let was : passives_of s d j ≡ passive_at s.passive d u = ap (passive_in s.passive s.hands d) at ∙ omega (arith, untried) in
    sym (passive_put s d j u (passive_at s.passive d u + 1) on p.0 at untried c m) ∙ put_shows (passives_of s) (λ k. suc k) d j (passive_at s.passive d u + 1) (omega (arith, was)) c m
counts_on s _ _ _ c m on (SubsPassive d j u at may) =
    let p = idle_tells s d on (and_parts (is_idle s d) _ may).0 in
    let untried : trying_at s.hands d u ≡ 0 = ap (trying_of u) p.1 in
    let was : passives_of s d j ≡ passive_at s.passive d u = ap (passive_in s.passive s.hands d) at ∙ omega (arith, untried) in
    sym (passive_put s d j u (passive_at s.passive d u - 1) on p.0 at untried c m) ∙ put_shows (passives_of s) (λ k. k - 1) d j (passive_at s.passive d u - 1) (omega (arith, was)) c m
counts_on s _ _ _ c m on (ConfirmsTry d u j hand may) =
    let live = live_tells j (slot_at s.slots u) (confirm_tells s d j (slot_at s.slots u) may).1 in
    let at : slot_of s.slots j ≡ Some u = ap (slot_of s.slots) (sym live.1) ∙ slot_number s.history s.slots live.0 u on.slots (inl live.2) in
    let k : ℕ = passives_of s c m in
    sym (confirmed s d u j on hand at c m) ∙ (put_shows (passives_of s) (λ i. suc i) d j (passives_of s d j + 1) (omega arith) c m
    ∙ cond_as (d == c) (cond (j == m) (suc k) k) (cond (names (tried_of s c) m) (suc k) k) k
    (λ same. ap (λ (x : Option ℕ). cond (names x m) (suc k) k) (sym (ap (tried_of s) (sym (eqb-true d c same)) ∙ ap tried_in hand))))
counts_on s _ _ _ c m on (Tries d u j may) =
    let tests = may_try_tells s d u j may in
    let idle = idle_tells s d on tests.0 in
    let place = passive_place s d u on idle.0 tests.2 in
    shifted s.passive _ s.hands _ c (slot_of s.slots m) (shifted_try s.passive s.hands d u j place.0 place.1 (omega (arith, idle.0, on.shape.hands)) idle.1 c)
counts_on s _ _ _ c m on (TakesBack d u j hand) =
    let told = trying_tells s d u j on hand in
    let place = passive_place s d u on told.0 told.1 in
    shifted s.passive _ s.hands _ c (slot_of s.slots m) (shifted_back s.passive s.hands d u j place.0 place.1 (omega (arith, told.0, on.shape.hands)) hand told.2 c)
counts_on s _ _ _ c m on (Counts d u e found at may) =
    unshifted s d c (Taking e.number) (slot_of s.slots m) (λ v. sym (ap (trying_of v) (idle_tells s d on (and_parts (is_idle s d) _ may).0).1))
counts_on s _ _ _ c m on (Splits d j hand) = unshifted s d c Empty (slot_of s.slots m) (λ v. sym (ap (trying_of v) hand))
counts_on s _ _ _ c m on (Joins d j id standing idle) = unshifted s d c (Giving j id) (slot_of s.slots m) (λ v. sym (ap (trying_of v) (idle_tells s d on idle).1))
counts_on s _ _ _ c m on (CountsDown d j id u hand at same) = unshifted s d c Empty (slot_of s.slots m) (λ v. sym (ap (trying_of v) hand))
counts_on s _ _ _ c m on (FindsCollected d j id hand) = unshifted s d c (Back j id) (slot_of s.slots m) (λ v. sym (ap (trying_of v) hand))
counts_on s _ _ _ c m on (SplitsBack d j id hand) = unshifted s d c Empty (slot_of s.slots m) (λ v. sym (ap (trying_of v) hand))
counts_on s _ _ _ c m on _ = refl

-- an entry comes into a slot without references, and goes from one

slots_on : (s : State) (e : Event) (o : Outcome) (c m : ℕ) → Holds s → step s e ≡ Some o → passive_in s.passive s.hands c (slot_of o.state.slots m) ≡ passives_of s c m
slots_on s e o c m on is =
    let after_it : after_event s e ≡ o.state = ap (state_after s) is in
    let later : Holds o.state = step_holds s o.state e o.reply on is in
    let none : ℕ → Type 0 = λ u. passive_at s.passive c u - trying_at s.hands c u ≡ 0 in
    sym (passive_moved s.history o.state.history s.slots o.state.slots s.passive s.hands c m on.slots later.slots
    (λ u at. ⊎_elim {C = At o.state.slots m u ⊎ none u}
    (λ (there : occupant_of o.state u ≡ Some m). inl (number_is (slot_at o.state.slots u) m there))
    (λ (gone : occupant_of o.state u ≡ Some m → ⊥).
    let goes = (obeys_laws s on).reuse.goes e u m (has_number m (slot_at s.slots u) at) (λ still. gone (subst (λ (q : State). occupant_of q u ≡ Some m) after_it still)) in
    inr (sym (ap (passive_in s.passive s.hands c) (own_slot s.history s.slots m u on.slots at)) ∙ goes.2.passive c))
    (goes_or_stays (occupant_of o.state u) m))
    (λ u at. ⊎_elim {C = At s.slots m u ⊎ none u}
    (λ (here : occupant_of s u ≡ Some m). inl (number_is (slot_at s.slots u) m here))
    (λ (off : occupant_of s u ≡ Some m → ⊥).
    let comes = (obeys_laws s on).reuse.comes e u m off (subst (λ (q : State). occupant_of q u ≡ Some m) (sym after_it) (has_number m (slot_at o.state.slots u) at)) in
    inr (omega (arith, on.passive.vacant c u (vacant_number (slot_at s.slots u) comes.1))))
    (goes_or_stays (occupant_of s u) m)))
  where
    has_number : (m : ℕ) (x : Slot) → (f : Entry) × (◌⊎◌ (x ≡ Live f) (x ≡ Retired f)) × (f.number ≡ m) → number_in x ≡ Some m
    has_number m x at = ⊎_elim
        (λ (live : x ≡ Live at.0). ap number_in live ∙ ap (λ (k : ℕ). Some k) at.2)
        (λ (gone : x ≡ Retired at.0). ap number_in gone ∙ ap (λ (k : ℕ). Some k) at.2)
        at.1

passives_next : (s : State) (e : Event) (o : Outcome) (c n : ℕ) → Holds s → step s e ≡ Some o → passives_of o.state c n ≡ next c n (tried_of s c) e (passives_of s c n)
passives_next s e o c n on is = counts_on s o.state e o.reply c n on (made s e o is) ∙ ap (next c n (tried_of s c) e) (slots_on s e o c n on is)

tried_next : (s : State) (e : Event) (o : Outcome) (c : ℕ) → Holds s → step s e ≡ Some o → tried_of o.state c ≡ try_next c e (tried_of s c)
tried_next s e o c on is = tries_on s o.state e o.reply c on (made s e o is)

-- A run

own_next : (s : State) (e : Event) (c n : ℕ) (x : Option ℕ) (k : ℕ) → ((d : ℕ) → maker (by_number s e) ≡ the_cpu d → d ≡ c) → passive_after n x (by_number s e) k ≡ next c n x e k
own_next s (PassiveAdd d m) c n x k only = sym (ap (λ (b : Bool). cond b (cond (m == n) (suc k) k) k) (eq-eqb d c (only d refl)))
own_next s (PassiveSub d m) c n x k only = sym (ap (λ (b : Bool). cond b (cond (m == n) (k - 1) k) k) (eq-eqb d c (only d refl)))
own_next s (Confirm d) c n x k only = sym (ap (λ (b : Bool). cond b (cond (names x n) (suc k) k) k) (eq-eqb d c (only d refl)))
own_next s e c n x k only = refl

own_try : (s : State) (e : Event) (c : ℕ) (x : Option ℕ) → ((d : ℕ) → maker (by_number s e) ≡ the_cpu d → d ≡ c) → tried_after (by_number s e) x ≡ try_next c e x
own_try s (Try d t n) c x only = sym (ap (λ (b : Bool). cond b (Some n) x) (eq-eqb d c (only d refl)))
own_try s (Confirm d) c x only = sym (ap (λ (b : Bool). cond b None x) (eq-eqb d c (only d refl)))
own_try s (TakeBack d) c x only = sym (ap (λ (b : Bool). cond b None x) (eq-eqb d c (only d refl)))
own_try s e c x only = refl

other_next : (s : State) (e : Event) (c n : ℕ) (x : Option ℕ) (k : ℕ) → (maker (by_number s e) ≡ the_cpu c → ⊥) → next c n x e k ≡ k
other_next s (PassiveAdd d m) c n x k off = ap (λ (b : Bool). cond b (cond (m == n) (suc k) k) k) (ne_eqb d c (λ same. off (ap the_cpu same)))
other_next s (PassiveSub d m) c n x k off = ap (λ (b : Bool). cond b (cond (m == n) (k - 1) k) k) (ne_eqb d c (λ same. off (ap the_cpu same)))
other_next s (Confirm d) c n x k off = ap (λ (b : Bool). cond b (cond (names x n) (suc k) k) k) (ne_eqb d c (λ same. off (ap the_cpu same)))
other_next s e c n x k off = refl

other_try : (s : State) (e : Event) (c : ℕ) (x : Option ℕ) → (maker (by_number s e) ≡ the_cpu c → ⊥) → try_next c e x ≡ x
other_try s (Try d t n) c x off = ap (λ (b : Bool). cond b (Some n) x) (ne_eqb d c (λ same. off (ap the_cpu same)))
other_try s (Confirm d) c x off = ap (λ (b : Bool). cond b None x) (ne_eqb d c (λ same. off (ap the_cpu same)))
other_try s (TakeBack d) c x off = ap (λ (b : Bool). cond b None x) (ne_eqb d c (λ same. off (ap the_cpu same)))
other_try s e c x off = refl

-- by the CPU's log so many references are counted at the end
pub counted_along : (seat : ℕ → ℕ) (cpus c n : ℕ) (x : Option ℕ) (k : ℕ) (s : State) (acts : List (ℕ × LogItem)) (es : List Event) (t : State) → Follows s acts es t → Holds s → AreByOwn seat cpus acts
    → ((d : ℕ) → d < cpus → seat c ≡ seat d → d ≡ c) → x ≡ tried_of s c → k ≡ passives_of s c n → passive_from n x k (part (seat c) acts) ≡ passives_of t c n
counted_along seat cpus c n x k s [] [] t is on own only tried had = had ∙ ap (λ (g : State). passives_of g c n) (sym is)
counted_along seat cpus c n x k s [] (e ∷ es) t run on own only tried had = absurd run
counted_along seat cpus c n x k s (a ∷ more) [] t run on own only tried had = absurd run
counted_along seat cpus c n x k s (a ∷ more) (e ∷ es) t run on own only tried had =
    let o = run.0 in
    let i = seat c in
    let event : a.1.event ≡ by_number s e = ap (λ (d : LogItem). d.event) run.2 in
    let holds : Holds o.state = step_holds s o.state e o.reply on run.1 in
    let then : passives_of o.state c n ≡ next c n x e k = passives_next s e o c n on run.1 ∙ (λ j. next c n (sym tried j) e (sym had j)) in
    let tries : tried_of o.state c ≡ try_next c e x = tried_next s e o c on run.1 ∙ ap (try_next c e) (sym tried) in
    ⊎_elim
    (λ (same : a.0 ≡ i).
    let mine : (d : ℕ) → maker (by_number s e) ≡ the_cpu d → d ≡ c = λ d of. let seated = subst (IsSeatOf seat cpus a.0) (ap maker event ∙ of) own.0 in only d seated.1 (sym same ∙ seated.0) in
    ap (passive_from n x k) (part_same i a more same)
    ∙ counted_along seat cpus c n (tried_after a.1.event x) (passive_after n x a.1.event k) o.state more es t run.3 holds own.1 only
    (ap (λ (f : Event). tried_after f x) event ∙ (own_try s e c x mine ∙ sym tries))
    (ap (λ (f : Event). passive_after n x f k) event ∙ (own_next s e c n x k mine ∙ sym then)))
    (λ (off : a.0 ≢ i).
    let others : maker (by_number s e) ≡ the_cpu c → ⊥ = λ of. off (subst (IsSeatOf seat cpus a.0) (ap maker event ∙ of) own.0).0 in
    ap (passive_from n x k) (part_off i a more off)
    ∙ counted_along seat cpus c n x k o.state more es t run.3 holds own.1 only (sym (tries ∙ other_try s e c x others)) (sym (then ∙ other_next s e c n x k others)))
    (cases_eq a.0 i)
