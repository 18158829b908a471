-- What all logs together say of local references: as many are there as CPUs acquired, less those that they released or the keeper gave up.
use Rattle.std.proofs.Common.{◌≡◌, ◌≢◌, ⊎_elim, ℕ, zero, suc, ◌+◌, ◌==◌, ◌<◌, Bool, true, cond, List, [], ◌∷◌, ◌++◌, length, Option, Some, None, eq-eqb, ne_eqb, refl, sym, ap, ◌∙◌, subst, arith}
use Rattle.std.proofs.lemmas.Bool.{and_parts, cases_eq}
use Rattle.std.proofs.lemmas.Option.{none-some}
use Rattle.cpu_words.specs.Types.{Entry, Settings, Event, Exit, LoadLink, LoadRecord, CountAdd, JoinRef, CountDown, JoinKeeper, KeptSub, Refind, Reply, Word, Found, Missed, Hand, Empty, Taking, Giving, Back, Trying, Free, Standing, Lifted}
use Rattle.protocol.specs.declared.event.RecordOf.TheVariants.{Search as OfSearch}
use Rattle.protocol.specs.Common.{State, opening, found_at, hand_at, kept_at, local_at, is_idle, may_write, Holds, one_if, IsUnheld, picture}
use Rattle.protocol.proofs.Made.{Made, Exits, LoadsEnd, LoadsLast, Refinds, Tries, ConfirmsTry, TakesBack, Counts, Splits, Joins, CountsDown, FindsCollected, SplitsBack, JoinsKeeper, KeepsDriver, SubsKept, made}
use Rattle.protocol.proofs.Cells.{get_or_all}
use Rattle.protocol.proofs.counts.Sums.{hand_changed, kept_changed, lifted_within, local_added, local_changed, no_hand, no_kept, number_of, standing_within}
use Rattle.protocol.proofs.keeps.CountKeeps.{hand_within, may_try_tells, trying_tells}
use Rattle.protocol.proofs.keeps.Keeping.{step_holds}
use Rattle.protocol.proofs.keeps.ListKeeps.{may_write_tells}
use Rattle.protocol.proofs.keeps.References.{back_holds, giving_holds, standing_tells}
use Rattle.protocol.proofs.keeps.Searching.{within_some}
use Rattle.protocol.proofs.keeps.SectionKeeps.{idle_tells, none_from, refind_tells, seated_search}
use Rattle.protocol.proofs.model.RefiningSections.{unwritten}
use Rattle.cpu_words.specs.Common.{LogItem, by_number, reply_without_id, number_or_none, maker, the_cpu, names, keeping, given_by, given_after, sum_below, IsSeatOf, AreByOwn, part, acquired_by, acquired_from, acquired_in, found_after, joined_after, local_references, released_by, released_from, released_in}
use Rattle.cpu_words.proofs.laws.Passing.{set_shows}
use Rattle.cpu_words.proofs.logs.Known.{Known, known_stays}
use Rattle.cpu_words.proofs.logs.Loads.{part_same, part_off}
use Rattle.cpu_words.proofs.logs.Runs.{Follows, Stays}
use Rattle.cpu_words.proofs.logs.Totalled.{sum_other}

-- By the state: what the CPU c found last, and what it has taken in to count down

abbrev number_found : Option Entry → Option ℕ
number_found None = None
number_found (Some e) = Some e.number

abbrev found_of : State → ℕ → Option ℕ
found_of s c = number_found (found_at s c)

abbrev joined_in : Hand → Option ℕ
joined_in Empty = None
joined_in (Taking n) = None
joined_in (Giving n id) = Some n
joined_in (Back n id) = None
joined_in (Trying t n) = None

abbrev joined_of : State → ℕ → Option ℕ
joined_of s c = joined_in (hand_at s c)

-- One event: what it leaves of these, and how many references to n it acquires, releases or gives up

abbrev found_next : ℕ → Event → Reply → Option ℕ → Option ℕ
found_next c (Exit d) r x = cond (d == c) None x
found_next c (Refind d t n) r x = cond (d == c) (Some n) x
found_next c (LoadLink d) Missed x = cond (d == c) None x
found_next c (LoadRecord (OfSearch d)) (Found e) x = cond (d == c) (Some e.number) x
found_next c e r x = x

abbrev joined_next : ℕ → Event → Option ℕ → Option ℕ
joined_next c (JoinRef d n) x = cond (d == c) (Some n) x
joined_next c (CountDown d) x = cond (d == c) None x
joined_next c e x = x

abbrev acquires : ℕ → ℕ → Option ℕ → Event → ℕ
acquires c n x (CountAdd d) = cond (d == c) (one_if (names x n)) 0
acquires c n x e = 0

abbrev releases : ℕ → ℕ → Option ℕ → Event → Reply → ℕ
releases c n x (CountDown d) (Word w) = cond (d == c) (one_if (names x n)) 0
releases c n x e r = 0

abbrev gives : ℕ → List (Option ℕ) → Event → ℕ
gives n keeps (JoinKeeper m) = cond (m == n) 1 0
gives n keeps (KeptSub u) = cond (names (kept_at keeps u) n) 1 0
gives n keeps e = 0

-- What was found, and what was taken in

found_on : (s n : State) (e : Event) (r : Reply) (c : ℕ) → Holds s → Made s e n r → found_of n c ≡ found_next c (by_number s e) (reply_without_id r) (found_of s c)
found_on s _ _ _ c on (Exits d may) = set_shows number_found None s.found d c None (omega (arith, (idle_tells s d on (and_parts (is_idle s d) _ may).0).0, on.shape.found))
found_on s _ _ _ c on (LoadsEnd d q at is) =
    set_shows number_found None s.found d c None (omega (arith, seated_search s.settings.cpus s.seated s.begins s.searches s.hands d q on.seats at, on.seats.within, on.shape.found))
found_on s _ _ _ c on (LoadsLast d q f at is) =
    set_shows number_found None s.found d c (Some f) (omega (arith, seated_search s.settings.cpus s.seated s.begins s.searches s.hands d q on.seats at, on.seats.within, on.shape.found))
found_on s _ _ _ c on (Refinds d t n e at may) =
    let told = refind_tells s d t n e may in
    set_shows number_found None s.found d c (Some e) (omega (arith, told.0, on.seats.within, on.shape.found)) ∙ ap (λ (m : ℕ). cond (d == c) (Some m) (found_of s c)) told.3
found_on s _ _ _ c on _ = refl

-- a hand with something in it is a CPU's
full : (s : State) (d : ℕ) (h : Hand) → Holds s → hand_at s d ≡ h → (h ≡ Empty → ⊥) → d < length s.hands
full s d h on hand some = omega (arith, hand_within s d on (λ empty. some (sym hand ∙ empty)), on.shape.hands)

idle : (s : State) (d : ℕ) → Holds s → is_idle s d ≡ true → (d < length s.hands) × (hand_at s d ≡ Empty)
idle s d on is = let told = idle_tells s d on is in (omega (arith, told.0, on.shape.hands), told.1)

joined_on : (s n : State) (e : Event) (r : Reply) (c : ℕ) → Holds s → Made s e n r → joined_of n c ≡ joined_next c (by_number s e) (joined_of s c)
joined_on s _ _ _ c on (Joins d j id at is) =
    set_shows joined_in Empty s.hands d c (Giving j id) (idle s d on is).0 ∙ ap (λ (o : Option ℕ). cond (d == c) (Some (number_or_none o)) (joined_of s c)) (sym at)
joined_on s _ _ _ c on (CountsDown d j id u hand at same) = set_shows joined_in Empty s.hands d c Empty (full s d (Giving j id) on hand (λ (no : Giving j id ≡ Empty). cc))
joined_on s _ _ _ c on (FindsCollected d j id hand) = set_shows joined_in Empty s.hands d c (Back j id) (full s d (Giving j id) on hand (λ (no : Giving j id ≡ Empty). cc))
joined_on s _ _ _ c on (Counts d u e found at may) = sym (unwritten joined_in Empty s.hands d (Taking e.number) (ap joined_in (idle s d on (and_parts (is_idle s d) _ may).0).1) c)
joined_on s _ _ _ c on (Splits d j hand) = sym (unwritten joined_in Empty s.hands d Empty (ap joined_in hand) c)
joined_on s _ _ _ c on (SplitsBack d j id hand) = sym (unwritten joined_in Empty s.hands d Empty (ap joined_in hand) c)
joined_on s _ _ _ c on (Tries d u j may) = sym (unwritten joined_in Empty s.hands d (Trying u j) (ap joined_in (idle s d on (may_try_tells s d u j may).0).1) c)
joined_on s _ _ _ c on (ConfirmsTry d u j hand may) = sym (unwritten joined_in Empty s.hands d Empty (ap joined_in hand) c)
joined_on s _ _ _ c on (TakesBack d u j hand) = sym (unwritten joined_in Empty s.hands d Empty (ap joined_in hand) c)
joined_on s _ _ _ c on _ = refl

-- Sums over CPUs

sum_zero : (f : ℕ → ℕ) (n : ℕ) → ((c : ℕ) → c < n → f c ≡ 0) → sum_below f n ≡ 0
sum_zero f zero none = refl
sum_zero f (suc n) none = omega (arith, sum_zero f n (λ c lt. none c (omega (arith, lt))), none n (omega arith))

sum_both : (f g h : ℕ → ℕ) (n : ℕ) → ((c : ℕ) → c < n → f c ≡ g c + h c) → sum_below f n ≡ sum_below g n + sum_below h n
sum_both f g h zero each = refl
sum_both f g h (suc n) each = omega (arith, sum_both f g h n (λ c lt. each c (omega (arith, lt))), each n (omega arith))

-- one alone counts
sum_one : (v : ℕ → ℕ) (d n : ℕ) → d < n → sum_below (λ c. cond (d == c) (v c) 0) n ≡ v d
sum_one v d zero lt = absurd (omega (arith, lt))
sum_one v d (suc n) lt = ⊎_elim
    (λ (same : d ≡ n).
    let here : cond (d == n) (v n) 0 ≡ v d = ap (λ (b : Bool). cond b (v n) 0) (eq-eqb d n same) ∙ ap v (sym same) in
    omega (arith, here, sum_zero (λ c. cond (d == c) (v c) 0) n (λ c low. ap (λ (b : Bool). cond b (v c) 0) (ne_eqb d c (λ is. absurd (omega (arith, low, is, same)))))))
    (λ (off : d ≢ n).
    let none : cond (d == n) (v n) 0 ≡ 0 = ap (λ (b : Bool). cond b (v n) 0) (ne_eqb d n off) in
    omega (arith, none, sum_one v d n (omega (arith, lt, off))))
    (cases_eq d n)

-- One event: what it acquires is there after it, and what it releases or gives up isn't

-- where it does neither
quiet : (a b : ℕ → ℕ) (n l m : ℕ) → ((c : ℕ) → a c ≡ 0) → ((c : ℕ) → b c ≡ 0) → l ≡ m → sum_below a n + l ≡ sum_below b n + 0 + m
quiet a b n l m none also same = omega (arith, sum_zero a n (λ c lt. none c), sum_zero b n (λ c lt. also c), same)

one_event : (s n : State) (e : Event) (r : Reply) (cpus k : ℕ) → Holds s → Made s e n r → ((d : ℕ) → maker (by_number s e) ≡ the_cpu d → d < cpus)
    → sum_below (λ c. acquires c k (found_of s c) (by_number s e)) cpus + local_references s k
    ≡ sum_below (λ c. releases c k (joined_of s c) (by_number s e) (reply_without_id r)) cpus + gives k s.keeps (by_number s e) + local_references n k
one_event s _ _ _ cpus k on (Counts d u e found at may) seated =
    let empty = idle s d on (and_parts (is_idle s d) _ may).0 in
    let one : sum_below (λ c. cond (d == c) (one_if (names (found_of s c) k)) 0) cpus ≡ one_if (e.number == k) =
    sum_one (λ c. one_if (names (found_of s c) k)) d cpus (seated d refl) ∙ ap (λ (x : Option Entry). one_if (names (number_found x) k)) found in
    omega (arith, one, sum_zero (λ c. 0) cpus (λ c lt. refl), hand_changed k s.hands d Empty (Taking e.number) empty.0 empty.1)
one_event s _ _ _ cpus k on (CountsDown d j id u hand at same) seated =
    let holds = giving_holds s.settings.cpus s.slots s.hands s.due s.locals d j id hand on.references in
    let one : sum_below (λ c. cond (d == c) (one_if (names (joined_of s c) k)) 0) cpus ≡ one_if (j == k) =
    sum_one (λ c. one_if (names (joined_of s c) k)) d cpus (seated d refl) ∙ ap (λ (h : Hand). one_if (names (joined_in h) k)) hand in
    omega (
      arith,
      one,
      sum_zero (λ c. 0) cpus (λ c lt. refl),
      hand_changed k s.hands d (Giving j id) Empty (full s d (Giving j id) on hand (λ (no : Giving j id ≡ Empty). cc)) hand,
      local_changed k s.locals id (Lifted d) Free (lifted_within s.locals id d holds.1) holds.1,
    )
one_event s _ _ _ cpus k on (FindsCollected d j id hand) seated = quiet _ _ cpus _ _ (λ c. refl) (λ c. refl)
    (omega (arith, hand_changed k s.hands d (Giving j id) (Back j id) (full s d (Giving j id) on hand (λ (no : Giving j id ≡ Empty). cc)) hand))
one_event s _ _ _ cpus k on (Splits d j hand) seated = quiet _ _ cpus _ _ (λ c. refl) (λ c. refl)
    (omega (arith, hand_changed k s.hands d (Taking j) Empty (full s d (Taking j) on hand (λ (no : Taking j ≡ Empty). cc)) hand, local_added k s.locals (Standing j)))
one_event s _ _ _ cpus k on (Joins d j id at is) seated =
    let empty = idle s d on is in
    let place = standing_tells (local_at s.locals id) j at in
    quiet _ _ cpus _ _ (λ c. refl) (λ c. refl)
    (omega (arith, hand_changed k s.hands d Empty (Giving j id) empty.0 empty.1, local_changed k s.locals id (Standing j) (Lifted d) (standing_within s.locals id j place) place))
one_event s _ _ _ cpus k on (SplitsBack d j id hand) seated =
    let holds = back_holds s.settings.cpus s.slots s.hands s.due s.locals d j id hand on.references in
    quiet _ _ cpus _ _ (λ c. refl) (λ c. refl)
    (omega (
      arith,
      hand_changed k s.hands d (Back j id) Empty (full s d (Back j id) on hand (λ (no : Back j id ≡ Empty). cc)) hand,
      local_changed k s.locals id (Lifted d) (Standing j) (lifted_within s.locals id d holds.1) holds.1,
    ))
one_event s _ _ _ cpus k on (Tries d u j may) seated =
    let empty = idle s d on (may_try_tells s d u j may).0 in
    quiet _ _ cpus _ _ (λ c. refl) (λ c. refl) (omega (arith, hand_changed k s.hands d Empty (Trying u j) empty.0 empty.1))
one_event s _ _ _ cpus k on (ConfirmsTry d u j hand may) seated =
    quiet _ _ cpus _ _ (λ c. refl) (λ c. refl) (omega (arith, hand_changed k s.hands d (Trying u j) Empty (omega (arith, (trying_tells s d u j on hand).0, on.shape.hands)) hand))
one_event s _ _ _ cpus k on (TakesBack d u j hand) seated =
    quiet _ _ cpus _ _ (λ c. refl) (λ c. refl) (omega (arith, hand_changed k s.hands d (Trying u j) Empty (omega (arith, (trying_tells s d u j on hand).0, on.shape.hands)) hand))
one_event s _ _ _ cpus k on (JoinsKeeper id j t at of may) seated =
    let place = standing_tells (local_at s.locals id) j at in
    let one = ap (λ (o : Option ℕ). one_if (number_or_none o == k)) at in
    omega (arith, one, sum_zero (λ c. 0) cpus (λ c lt. refl), local_changed k s.locals id (Standing j) Free (standing_within s.locals id j place) place)
one_event s _ _ _ cpus k on (KeepsDriver t id j u at of may) seated =
    let place = standing_tells (local_at s.locals id) j at in
    let tests = and_parts (may_write s t) _ may in
    let told = may_write_tells s t on.shape tests.0 in
    let none : kept_at s.keeps t ≡ None = none_from (kept_at s.keeps t) (and_parts _ _ tests.1).0 in
    quiet _ _ cpus _ _ (λ c. refl) (λ c. refl)
    (omega (
      arith,
      local_changed k s.locals id (Standing j) Free (standing_within s.locals id j place) place,
      kept_changed k s.keeps t None (Some j) (omega (arith, told.1, on.shape.slots, on.shape.keeps)) none,
    ))
one_event s _ _ _ cpus k on (SubsKept t d u keeps of may) seated =
    let one = ap (λ (o : Option ℕ). one_if (names o k)) keeps in
    omega (arith, one, sum_zero (λ c. 0) cpus (λ c lt. refl), kept_changed k s.keeps t (Some d) None (within_some s.keeps t d keeps) keeps)
one_event s _ _ _ cpus k on _ seated = quiet _ _ cpus _ _ (λ c. refl) (λ c. refl) refl

-- One item of the list, as a CPU's log has it

-- an event of the CPU's own

own_found : (e : Event) (r : Reply) (c : ℕ) (x : Option ℕ) → ((d : ℕ) → maker e ≡ the_cpu d → d ≡ c) → found_after e r x ≡ found_next c e r x
own_found (Exit d) r c x only = sym (ap (λ (b : Bool). cond b None x) (eq-eqb d c (only d refl)))
own_found (Refind d t n) r c x only = sym (ap (λ (b : Bool). cond b (Some n) x) (eq-eqb d c (only d refl)))
own_found (LoadLink d) Missed c x only = sym (ap (λ (b : Bool). cond b None x) (eq-eqb d c (only d refl)))
own_found (LoadRecord (OfSearch d)) (Found e) c x only = sym (ap (λ (b : Bool). cond b (Some e.number) x) (eq-eqb d c (only d refl)))
own_found e r c x only = refl

own_joined : (e : Event) (c : ℕ) (x : Option ℕ) → ((d : ℕ) → maker e ≡ the_cpu d → d ≡ c) → joined_after e x ≡ joined_next c e x
own_joined (JoinRef d n) c x only = sym (ap (λ (b : Bool). cond b (Some n) x) (eq-eqb d c (only d refl)))
own_joined (CountDown d) c x only = sym (ap (λ (b : Bool). cond b None x) (eq-eqb d c (only d refl)))
own_joined e c x only = refl

own_acquires : (e : Event) (c n : ℕ) (x : Option ℕ) → ((d : ℕ) → maker e ≡ the_cpu d → d ≡ c) → acquired_by n x e ≡ acquires c n x e
own_acquires (CountAdd d) c n x only = sym (ap (λ (b : Bool). cond b (one_if (names x n)) 0) (eq-eqb d c (only d refl)))
own_acquires e c n x only = refl

own_releases : (e : Event) (r : Reply) (c n : ℕ) (x : Option ℕ) → ((d : ℕ) → maker e ≡ the_cpu d → d ≡ c) → released_by n x e r ≡ releases c n x e r
own_releases (CountDown d) (Word w) c n x only = sym (ap (λ (b : Bool). cond b (one_if (names x n)) 0) (eq-eqb d c (only d refl)))
own_releases e r c n x only = refl

-- another's

other_found : (e : Event) (r : Reply) (c : ℕ) (x : Option ℕ) → (maker e ≡ the_cpu c → ⊥) → found_next c e r x ≡ x
other_found (Exit d) r c x off = ap (λ (b : Bool). cond b None x) (ne_eqb d c (λ same. off (ap the_cpu same)))
other_found (Refind d t n) r c x off = ap (λ (b : Bool). cond b (Some n) x) (ne_eqb d c (λ same. off (ap the_cpu same)))
other_found (LoadLink d) Missed c x off = ap (λ (b : Bool). cond b None x) (ne_eqb d c (λ same. off (ap the_cpu same)))
other_found (LoadRecord (OfSearch d)) (Found e) c x off = ap (λ (b : Bool). cond b (Some e.number) x) (ne_eqb d c (λ same. off (ap the_cpu same)))
other_found e r c x off = refl

other_joined : (e : Event) (c : ℕ) (x : Option ℕ) → (maker e ≡ the_cpu c → ⊥) → joined_next c e x ≡ x
other_joined (JoinRef d n) c x off = ap (λ (b : Bool). cond b (Some n) x) (ne_eqb d c (λ same. off (ap the_cpu same)))
other_joined (CountDown d) c x off = ap (λ (b : Bool). cond b None x) (ne_eqb d c (λ same. off (ap the_cpu same)))
other_joined e c x off = refl

other_acquires : (e : Event) (c n : ℕ) (x : Option ℕ) → (maker e ≡ the_cpu c → ⊥) → acquires c n x e ≡ 0
other_acquires (CountAdd d) c n x off = ap (λ (b : Bool). cond b (one_if (names x n)) 0) (ne_eqb d c (λ same. off (ap the_cpu same)))
other_acquires e c n x off = refl

other_releases : (e : Event) (r : Reply) (c n : ℕ) (x : Option ℕ) → (maker e ≡ the_cpu c → ⊥) → releases c n x e r ≡ 0
other_releases (CountDown d) (Word w) c n x off = ap (λ (b : Bool). cond b (one_if (names x n)) 0) (ne_eqb d c (λ same. off (ap the_cpu same)))
other_releases e r c n x off = refl

-- no two of the first CPUs have one seat
abbrev pub AreApart : (ℕ → ℕ) → ℕ → Type 0
AreApart seat cpus = (c : ℕ) → c < cpus → (d : ℕ) → d < cpus → seat c ≡ seat d → d ≡ c

abbrev IsItem : (ℕ → ℕ) → ℕ → ℕ × LogItem → Event → Reply → Type 0
IsItem seat cpus a e r = (a.1.event ≡ e) × (a.1.reply ≡ r) × IsSeatOf seat cpus a.0 (maker e)

acquired_more : (seat : ℕ → ℕ) (cpus c n : ℕ) (a : ℕ × LogItem) (e : Event) (r : Reply) (x y : Option ℕ) (more : List (ℕ × LogItem)) → AreApart seat cpus → c < cpus → IsItem seat cpus a e r
    → y ≡ found_next c e r x → acquired_from n x (part (seat c) (a ∷ more)) ≡ acquires c n x e + acquired_from n y (part (seat c) more)
acquired_more seat cpus c n a e r x y more apart low item next = ⊎_elim
    (λ (same : a.0 ≡ seat c).
    let mine : (d : ℕ) → maker e ≡ the_cpu d → d ≡ c = λ d of. let its = subst (IsSeatOf seat cpus a.0) of item.2 in apart c low d its.1 (sym same ∙ its.0) in
    ap (acquired_from n x) (part_same (seat c) a more same) ∙ ((λ j. acquired_by n x (item.0 j) + acquired_from n (found_after (item.0 j) (item.1 j) x) (part (seat c) more))
    ∙ (λ j. own_acquires e c n x mine j + acquired_from n ((own_found e r c x mine ∙ sym next) j) (part (seat c) more))))
    (λ (off : a.0 ≢ seat c).
    let others : maker e ≡ the_cpu c → ⊥ = λ of. off (subst (IsSeatOf seat cpus a.0) of item.2).0 in
    let none : acquires c n x e ≡ 0 = other_acquires e c n x others in
    let rest = ap (λ (o : Option ℕ). acquired_from n o (part (seat c) more)) (next ∙ other_found e r c x others) in
    omega (arith, ap (acquired_from n x) (part_off (seat c) a more off), none, rest))
    (cases_eq a.0 (seat c))

released_more : (seat : ℕ → ℕ) (cpus c n : ℕ) (a : ℕ × LogItem) (e : Event) (r : Reply) (x y : Option ℕ) (more : List (ℕ × LogItem)) → AreApart seat cpus → c < cpus → IsItem seat cpus a e r
    → y ≡ joined_next c e x → released_from n x (part (seat c) (a ∷ more)) ≡ releases c n x e r + released_from n y (part (seat c) more)
released_more seat cpus c n a e r x y more apart low item next = ⊎_elim
    (λ (same : a.0 ≡ seat c).
    let mine : (d : ℕ) → maker e ≡ the_cpu d → d ≡ c = λ d of. let its = subst (IsSeatOf seat cpus a.0) of item.2 in apart c low d its.1 (sym same ∙ its.0) in
    ap (released_from n x) (part_same (seat c) a more same) ∙ ((λ j. released_by n x (item.0 j) (item.1 j) + released_from n (joined_after (item.0 j) x) (part (seat c) more))
    ∙ (λ j. own_releases e r c n x mine j + released_from n ((own_joined e c x mine ∙ sym next) j) (part (seat c) more))))
    (λ (off : a.0 ≢ seat c).
    let others : maker e ≡ the_cpu c → ⊥ = λ of. off (subst (IsSeatOf seat cpus a.0) of item.2).0 in
    let none : releases c n x e r ≡ 0 = other_releases e r c n x others in
    let rest = ap (λ (o : Option ℕ). released_from n o (part (seat c) more)) (next ∙ other_joined e c x others) in
    omega (arith, ap (released_from n x) (part_off (seat c) a more off), none, rest))
    (cases_eq a.0 (seat c))

-- and as the keeper's has it

own_gives : (before : List LogItem) (n : ℕ) (keeps : List (Option ℕ)) (e : Event) → ((t : ℕ) → kept_at keeps t ≡ keeping t before) → given_by before n e ≡ gives n keeps e
own_gives before n keeps (KeptSub u) kept = ap (λ (o : Option ℕ). cond (names o n) 1 0) (sym (kept u))
own_gives before n keeps e kept = refl

other_gives : (seat : ℕ → ℕ) (cpus i n : ℕ) (keeps : List (Option ℕ)) (e : Event) → IsSeatOf seat cpus i (maker e) → i ≢ 0 → gives n keeps e ≡ 0
other_gives seat cpus i n keeps (JoinKeeper m) is off = absurd (off is)
other_gives seat cpus i n keeps (KeptSub u) is off = absurd (off is)
other_gives seat cpus i n keeps e is off = refl

-- A run

counted_on : (seat : ℕ → ℕ) (cpus all n : ℕ) (before : List LogItem) (s : State) (acts : List (ℕ × LogItem)) (es : List Event) (t : State) → Follows s acts es t → Holds s → AreByOwn seat cpus acts
    → AreApart seat cpus → Known all before s
    → sum_below (λ c. acquired_from n (found_of s c) (part (seat c) acts)) cpus + local_references s n
    ≡ sum_below (λ c. released_from n (joined_of s c) (part (seat c) acts)) cpus + given_after before n (part 0 acts) + local_references t n
counted_on seat cpus all n before s [] [] t is on own apart known = quiet (λ c. 0) (λ c. 0) cpus (local_references s n) (local_references t n) (λ c. refl) (λ c. refl) (ap (λ (g : State). local_references g n) (sym is))
counted_on seat cpus all n before s [] (e ∷ es) t run on own apart known = absurd run
counted_on seat cpus all n before s (a ∷ more) [] t run on own apart known = absurd run
counted_on seat cpus all n before s (a ∷ more) (e ∷ es) t run on own apart known =
    let o = run.0 in
    let f : Event = by_number s e in
    let r : Reply = reply_without_id o.reply in
    let m : Made s e o.state o.reply = made s e o run.1 in
    let holds : Holds o.state = step_holds s o.state e o.reply on run.1 in
    let its : IsSeatOf seat cpus a.0 (maker f) = subst (λ (d : LogItem). IsSeatOf seat cpus a.0 (maker d.event)) run.2 own.0 in
    let item : IsItem seat cpus a f r = (ap (λ (d : LogItem). d.event) run.2, ap (λ (d : LogItem). d.reply) run.2, its) in
    let acquired = sum_both (λ c. acquired_from n (found_of s c) (part (seat c) (a ∷ more))) (λ c. acquires c n (found_of s c) f) (λ c. acquired_from n (found_of o.state c) (part (seat c) more)) cpus
    (λ c low. acquired_more seat cpus c n a f r (found_of s c) (found_of o.state c) more apart low item (found_on s o.state e o.reply c on m)) in
    let released = sum_both (λ c. released_from n (joined_of s c) (part (seat c) (a ∷ more))) (λ c. releases c n (joined_of s c) f r) (λ c. released_from n (joined_of o.state c) (part (seat c) more)) cpus
    (λ c low. released_more seat cpus c n a f r (joined_of s c) (joined_of o.state c) more apart low item (joined_on s o.state e o.reply c on m)) in
    let event = one_event s o.state e o.reply cpus n on m (λ d of. (subst (IsSeatOf seat cpus a.0) of its).1) in
    let stays : Stays seat cpus (Known all) = known_stays seat cpus all in
    ⊎_elim
    (λ (same : a.0 ≡ 0).
    let next : Known all (before ++ a.1 ∷ []) o.state = subst (λ (d : LogItem). Known all (before ++ d ∷ []) o.state) (sym run.2) (stays.own before s e o a.1.teller on run.1 known) in
    let given : given_after before n (part 0 (a ∷ more)) ≡ gives n s.keeps f + given_after (before ++ a.1 ∷ []) n (part 0 more) =
    ap (given_after before n) (part_same 0 a more same) ∙ (λ j. (ap (given_by before n) item.0 ∙ own_gives before n s.keeps f known.kept) j + given_after (before ++ a.1 ∷ []) n (part 0 more)) in
    omega (arith, acquired, released, event, given, counted_on seat cpus all n (before ++ a.1 ∷ []) o.state more es t run.3 holds own.1 apart next))
    (λ (off : a.0 ≢ 0).
    let next : Known all before o.state = stays.off a.0 before s e o its off on run.1 known in
    let given : given_after before n (part 0 (a ∷ more)) ≡ gives n s.keeps f + given_after before n (part 0 more) =
    omega (arith, ap (given_after before n) (part_off 0 a more off), other_gives seat cpus a.0 n s.keeps f its off) in
    omega (arith, acquired, released, event, given, counted_on seat cpus all n before o.state more es t run.3 holds own.1 apart next))
    (cases_eq a.0 0)

-- before all events there is none
none_first : (z : Settings) (n : ℕ) → local_references (opening z) n ≡ 0
none_first z n =
    omega (
      arith,
      no_hand n (opening z).hands (λ c named. none-some n (ap number_of (sym (get_or_all z.cpus Empty c)) ∙ named)),
      no_kept n (opening z).keeps (λ t kept. none-some n (sym (get_or_all z.slots None t) ∙ kept)),
    )

-- all logs count the local references that are there at the end
pub counted_together : (seat : ℕ → ℕ) (cpus n : ℕ) (z : Settings) (acts : List (ℕ × LogItem)) (es : List Event) (t : State) → Follows (opening z) acts es t → Holds (opening z) → AreByOwn seat cpus acts
    → AreApart seat cpus → Known z.cpus [] (opening z) → acquired_in seat cpus n acts ≡ released_in seat cpus n acts + local_references t n
counted_together seat cpus n z acts es t run on own apart known =
    omega (
      arith,
      counted_on seat cpus z.cpus n [] (opening z) acts es t run on own apart known,
      none_first z n,
      sum_other (λ c. acquired_from n (found_of (opening z) c) (part (seat c) acts)) (λ c. acquired_from n None (part (seat c) acts)) cpus
          (λ c low. ap (λ (x : Option Entry). acquired_from n (number_found x) (part (seat c) acts)) (sym (get_or_all {X = Option Entry} z.cpus None c))),
      sum_other (λ c. released_from n (joined_of (opening z) c) (part (seat c) acts)) (λ c. released_from n None (part (seat c) acts)) cpus
          (λ c low. ap (λ (h : Hand). released_from n (joined_in h) (part (seat c) acts)) (sym (get_or_all z.cpus Empty c))),
    )

-- what nothing holds has none
pub unheld_has_none : (s : State) (n : ℕ) → IsUnheld (picture s) n → local_references s n ≡ 0
unheld_has_none s n unheld = omega (arith, unheld.locals, no_kept n s.keeps (λ t kept. unheld.keeps t kept))
