-- Passive references: the registry that the session shows answers and changes as the core does.
use Rattle.std.proofs.Common.{◌≡◌, ℕ, ◌+◌, ◌-◌, ◌<◌, List, length, get_or, set, is_some, Option, Some, None, Bool, true, false, ◌||◌, nat_lt, refl, sym, ap, subst, ◌∙◌, eqb-true}
use Rattle.std.specs.Prelude.{if◌then◌else◌, ◌==◌, Result, Ok, Err}
use Rattle.std.proofs.lemmas.Bool.{eq-eqb, or_left, or_right}
use Rattle.std.proofs.lemmas.Option.{none-some}
use Rattle.registry_report.specs.Types.{Entry, Change, Record, CorePsref, Refusal, NothingFound, PassiveFull, WrongCpu, NotHeld, LocalPlace}
use Rattle.protocol.specs.Common.{State, found_at, local_at, is_number, number_standing, Holds, trying_at, put, with_passive, passive_in}
use Rattle.registry_values.specs.Common.{slot_of, Answers}
use Rattle.registry_values.proofs.Answers.{same_Ok}
use Rattle.passive_core.specs.Common.{IsQuiet, all_seated, IsRecordOf, psref_to_found, psref_copy, passive_of, refusal_of, with_one_less, with_one_more}
use Rattle.passive_core.specs.References as core
use Rattle.passive_core.proofs.Entering.{acting_untried}
use Rattle.passive_core.proofs.Passives.{counted_less, counted_more}
use Rattle.registry_report.specs.Common.{Hitch, LabelTaken, Reading, acquire_answer, copy_answer, held_answer, command_answer, if_free, misuse, one_more, read_answer, reading_of, reference_answer, release_answer, unless, with_label, value_in, value_of, Registry, IsSession, SessionState, with_core, Shows, with_reference, without_reference}
use Rattle.registry_report.proofs.Lookups.{entry_is}
use Rattle.registry_report.proofs.shows.Sectioned.{put_shows}

-- In general

-- an answer with something else for what was answered
abbrev pub image : {X Y E : Type 0} → (X → Y) → Result X E → Result Y E
image f (Ok x) = Ok (f x)
image f (Err e) = Err e

-- a call that is refused exactly where there is a refusal returns its one value, else that refusal
pub answers_image : {X Y : Type 0} (refusal : Option Refusal) (P : X → Type 0) (f : X → Y) (y : Y) (result : Result X Refusal)
    → Answers refusal P result → ((x : X) → P x → f x ≡ y) → image f result ≡ unless refusal (Ok y)
answers_image {X} {Y} refusal P f y (Ok x) is one = ap (λ (v : Y). Ok v) (one x is.1) ∙ ap (λ (o : Option Refusal). unless o (Ok y)) (sym is.0)
answers_image {X} {Y} refusal P f y (Err e) is one = ap (λ (o : Option Refusal). unless o (Ok y)) (sym is)

pub put_both : {X : Type 0} (f g : ℕ → ℕ → X) (c n : ℕ) (x y : X) → ((d m : ℕ) → f d m ≡ g d m) → x ≡ y → (d m : ℕ) → put f c (put (f c) n x) d m ≡ put g c (put (g c) n y) d m
put_both f g c n x y same value d m = λ k. put (λ i. λ j. same i j k) c (put (λ j. same c j k) n (value k)) d m

-- Answers

pub passive_is : (s : SessionState) (r : Registry) (c n : ℕ) → Shows s r → r.model.passive c n ≡ passive_of s.core c n
passive_is s r c n on = on.model.held c n

pub held_is : (s : SessionState) (r : Registry) (c : ℕ) (p : CorePsref) → Shows s r → nat_lt 0 (passive_of s.core c p.number) ≡ nat_lt 0 (r.model.passive c p.number)
held_is s r c p on = ap (nat_lt 0) (sym (passive_is s r c p.number on))

pub misuse_is : (s : SessionState) (r : Registry) (c : ℕ) (p : CorePsref) → Shows s r → refusal_of s.core c p ≡ misuse r c p
misuse_is s r c p on = ap (λ (b : Bool). if p.cpu == c then (if b then None else Some NotHeld) else Some WrongCpu) (held_is s r c p on)

-- the number that a reference is to
abbrev pub number_if : Result CorePsref Refusal → Result ℕ Refusal
number_if answer = image (λ p. p.number) answer

number_more : (b : Bool) (p : CorePsref) → number_if (unless (if b then None else Some PassiveFull) (Ok p)) ≡ unless (if b then None else Some PassiveFull) (Ok p.number)
number_more true p = refl
number_more false p = refl

pub one_more_is : (s : SessionState) (r : Registry) (c n : ℕ) → Shows s r → number_if (core.one_more s.core c n) ≡ one_more r c n
one_more_is s r c n on =
    let room : nat_lt (passive_of s.core c n) s.core.settings.passive_limit ≡ nat_lt (r.model.passive c n) r.settings.passive_limit =
    λ i. nat_lt (sym (passive_is s r c n on) i) (sym on.settings i).passive_limit in
    number_more (nat_lt (passive_of s.core c n) s.core.settings.passive_limit) (record { cpu = c; number = n })
    ∙ ap (λ (b : Bool). unless (if b then None else Some PassiveFull) (Ok n)) room

acquired_is : (s : SessionState) (r : Registry) (c : ℕ) (o : Option Entry) → Shows s r → number_if (psref_to_found s.core c o) ≡ acquire_answer r c o
acquired_is s r c None on = refl
acquired_is s r c (Some e) on = one_more_is s r c e.number on

pub acquire_answers : (s : SessionState) (r : Registry) (c : ℕ) → Shows s r → number_if (psref_to_found s.core c (found_at s.core c)) ≡ acquire_answer r c (r.model.found c)
acquire_answers s r c on = acquired_is s r c (found_at s.core c) on ∙ ap (acquire_answer r c) (sym (on.model.last_found c))

copied_is : (s : SessionState) (r : Registry) (c n : ℕ) (refusal : Option Refusal) → Shows s r → number_if (psref_copy s.core c n refusal) ≡ unless refusal (one_more r c n)
copied_is s r c n None on = one_more_is s r c n on
copied_is s r c n (Some f) on = refl

pub copy_answers : (s : SessionState) (r : Registry) (c : ℕ) (p : CorePsref) → Shows s r
    → number_if (psref_copy s.core c p.number (refusal_of s.core c p)) ≡ unless (misuse r c p) (one_more r c p.number)
copy_answers s r c p on = copied_is s r c p.number (refusal_of s.core c p) on ∙ ap (λ (o : Option Refusal). unless o (one_more r c p.number)) (misuse_is s r c p on)

-- the record of the entry with a number has its value
pub value_is : (s : SessionState) (r : Registry) (n : ℕ) (rec : Record) → Shows s r → IsRecordOf s.core.history n rec → rec.value ≡ value_of r.model.history n
value_is s r n rec on is =
    let e = is.0 in
    ap (λ (x : Record). x.value) is.3
    ∙ (sym (ap value_in (entry_is s.core.history e is.1))
    ∙ (ap (value_of s.core.history) is.2 ∙ ap (λ (h : List Change). value_of h n) (sym on.model.history)))

-- what a read of the entry n says
abbrev pub read_of : ℕ → Record → Reading
read_of n rec = record { number = n; value = rec.value }

pub reading_is : (s : SessionState) (r : Registry) (n : ℕ) (rec : Record) → Shows s r → IsRecordOf s.core.history n rec → read_of n rec ≡ reading_of r n
reading_is s r n rec on is = ap (λ (v : ℕ). record { number = n; value = v }) (value_is s r n rec on is)

pub read_answers : (s : SessionState) (r : Registry) (c : ℕ) (p : CorePsref) (result : Result Record Refusal) → Shows s r
    → Answers (refusal_of s.core c p) (IsRecordOf s.core.history p.number) result → image (read_of p.number) result ≡ unless (misuse r c p) (Ok (reading_of r p.number))
read_answers s r c p result on is =
    answers_image (refusal_of s.core c p) (IsRecordOf s.core.history p.number) (read_of p.number) (reading_of r p.number) result is (λ rec at. reading_is s r p.number rec on at)
    ∙ ap (λ (o : Option Refusal). unless o (Ok (reading_of r p.number))) (misuse_is s r c p on)

pub release_answers : (s : SessionState) (r : Registry) (c : ℕ) (p : CorePsref) (result : Result (Unit {0}) Refusal) → Shows s r
    → Answers (refusal_of s.core c p) (λ done. Unit {0}) result → image (λ done. p.number) result ≡ unless (misuse r c p) (Ok p.number)
release_answers s r c p result on is =
    answers_image (refusal_of s.core c p) (λ (done : Unit {0}). Unit {0}) (λ done. p.number) p.number result is (λ done at. refl)
    ∙ ap (λ (o : Option Refusal). unless o (Ok p.number)) (misuse_is s r c p on)

-- What is left

-- the CPUs' seats are no part of what is shown
pub seated_shows : (s : SessionState) (r : Registry) → Shows s r → Shows (with_core s (all_seated s.core)) r
seated_shows s r on = record { settings = on.settings; model = on.model; sections = on.sections; live = on.live; grace = on.grace; tallies = on.tallies; labels = on.labels }

-- the list of passive references and a label change
relabelled : (s : SessionState) (r : Registry) (passive : List (List ℕ)) (c n k a : ℕ) (label : Option CorePsref) → Shows s r → a < length s.passives
    → ((d m : ℕ) → put r.model.passive c (put (r.model.passive c) n k) d m ≡ passive_in passive s.core.hands d (slot_of s.core.slots m))
    → Shows (record s { core = record (all_seated s.core) { passive = passive }; passives = set s.passives a label })
    (record r { model = with_passive r.model c n k; passive_labels = put r.passive_labels a label })
relabelled s r passive c n k a label on within held = assumption (put_shows r.passive_labels None s.passives a label label within on.labels.passive refl)

more_by : (s : SessionState) (r : Registry) (c n a : ℕ) (o : Option ℕ) → Shows s r → a < length s.passives
    → ((d m : ℕ) → put r.model.passive c (put (r.model.passive c) n (r.model.passive c n + 1)) d m ≡ passive_of (with_one_more s.core c o) d m)
    → Shows (record s { core = with_one_more s.core c o; passives = set s.passives a (Some (record { cpu = c; number = n })) }) (with_reference r c a n)
more_by s r c n a None on within held = relabelled s r s.core.passive c n (r.model.passive c n + 1) a (Some (record { cpu = c; number = n })) on within held
more_by s r c n a (Some t) on within held = relabelled s r (with_one_more s.core c (Some t)).passive c n (r.model.passive c n + 1) a (Some (record { cpu = c; number = n })) on within held

less_by : (s : SessionState) (r : Registry) (c n a : ℕ) (o : Option ℕ) → Shows s r → a < length s.passives
    → ((d m : ℕ) → put r.model.passive c (put (r.model.passive c) n (r.model.passive c n - 1)) d m ≡ passive_of (with_one_less s.core c o) d m)
    → Shows (record s { core = with_one_less s.core c o; passives = set s.passives a None }) (without_reference r c a n)
less_by s r c n a None on within held = relabelled s r s.core.passive c n (r.model.passive c n - 1) a None on within held
less_by s r c n a (Some t) on within held = relabelled s r (with_one_less s.core c (Some t)).passive c n (r.model.passive c n - 1) a None on within held

-- a CPU of a session is trying nothing
session_untried : (s : SessionState) (c t : ℕ) → IsSession s → trying_at s.core.hands c t ≡ 0
session_untried s c t is = acting_untried s.core c t is.holds (is.quiet.ready c)

-- one reference more, of a CPU that has found the entry or holds one to it, for a label
pub referred_shows : (s : SessionState) (r : Registry) (c n a : ℕ) → IsSession s → Shows s r → c < s.core.settings.cpus → a < length s.passives
    → (is_number n (found_at s.core c) || nat_lt 0 (passive_of s.core c n)) ≡ true
    → Shows (record s { core = with_one_more s.core c (slot_of s.core.slots n); passives = set s.passives a (Some (record { cpu = c; number = n })) }) (with_reference r c a n)
referred_shows s r c n a is on low within has = more_by s r c n a (slot_of s.core.slots n) on within
    (λ d m. put_both r.model.passive (passive_of s.core) c n (r.model.passive c n + 1) (passive_of s.core c n + 1) on.model.held (ap (λ (k : ℕ). k + 1) (on.model.held c n)) d m
    ∙ sym (counted_more s.core c n is.holds low (λ t. session_untried s c t is) has d m))

-- one less, and the label has none
pub released_shows : (s : SessionState) (r : Registry) (c n a : ℕ) → IsSession s → Shows s r → c < s.core.settings.cpus → a < length s.passives
    → nat_lt 0 (passive_of s.core c n) ≡ true
    → Shows (record s { core = with_one_less s.core c (slot_of s.core.slots n); passives = set s.passives a None }) (without_reference r c a n)
released_shows s r c n a is on low within has = less_by s r c n a (slot_of s.core.slots n) on within
    (λ d m. put_both r.model.passive (passive_of s.core) c n (r.model.passive c n - 1) (passive_of s.core c n - 1) on.model.held (ap (λ (k : ℕ). k - 1) (on.model.held c n)) d m
    ∙ sym (counted_less s.core c n is.holds low (λ t. session_untried s c t is) has d m))

-- The commands

Err_Ok : (f : Refusal) (p : CorePsref) → ◌≡◌ {A = Result CorePsref Refusal} (Err f) (Ok p) → ⊥
Err_Ok f p is = cc

one_by : (b : Bool) (p q : CorePsref) → ◌≡◌ {A = Result CorePsref Refusal} (unless (if b then None else Some PassiveFull) (Ok p)) (Ok q) → q ≡ p
one_by true p q is = sym (same_Ok p q is)
one_by false p q is = absurd (Err_Ok PassiveFull q is)

-- the reference that is answered is the CPU's, to the number
one_tells : (s : State) (c n : ℕ) (p : CorePsref) → core.one_more s c n ≡ Ok p → p ≡ record { cpu = c; number = n }
one_tells s c n p is = one_by (nat_lt (passive_of s c n) s.settings.passive_limit) (record { cpu = c; number = n }) p is

pub acquired_tells : (s : State) (c : ℕ) (o : Option Entry) (p : CorePsref) → psref_to_found s c o ≡ Ok p → (e : Entry) × (o ≡ Some e) × (p ≡ record { cpu = c; number = e.number })
acquired_tells s c None p is = absurd (Err_Ok NothingFound p is)
acquired_tells s c (Some e) p is = (e, refl, one_tells s c e.number p is)

pub copied_tells : (s : State) (c n : ℕ) (refusal : Option Refusal) (p : CorePsref) → psref_copy s c n refusal ≡ Ok p → (refusal ≡ None) × (p ≡ record { cpu = c; number = n })
copied_tells s c n None p is = (refl, one_tells s c n p is)
copied_tells s c n (Some f) p is = absurd (Err_Ok f p is)

none_by : (own has : Bool) → (if own then (if has then None else Some NotHeld) else Some WrongCpu) ≡ None → (own ≡ true) × (has ≡ true)
none_by true true is = (refl, refl)
none_by true false is = absurd (none-some NotHeld (sym is))
none_by false has is = absurd (none-some WrongCpu (sym is))

-- a reference that may be used is the CPU's own, which holds one to that number
pub used_tells : (s : State) (c : ℕ) (p : CorePsref) → refusal_of s c p ≡ None → (p.cpu ≡ c) × (nat_lt 0 (passive_of s c p.number) ≡ true)
used_tells s c p is =
    let both = none_by (p.cpu == c) (nat_lt 0 (passive_of s c p.number)) is in
    (eqb-true p.cpu c both.0, both.1)

-- what an acquire leaves
pub acquire_shows : (s : SessionState) (r : Registry) (c a : ℕ) (p : CorePsref) → IsSession s → Shows s r → c < s.core.settings.cpus → a < length s.passives
    → psref_to_found s.core c (found_at s.core c) ≡ Ok p
    → Shows (record s { core = core.after_acquire s.core c (Ok p); passives = set s.passives a (Some p) }) (with_reference r c a p.number)
acquire_shows s r c a p is on low within answer =
    let told = acquired_tells s.core c (found_at s.core c) p answer in
    let e = told.0 in
    let has : is_number e.number (found_at s.core c) ≡ true = ap (is_number e.number) told.1 ∙ eq-eqb e.number e.number refl in
    subst (λ (q : CorePsref). Shows (record s { core = core.after_acquire s.core c (Ok q); passives = set s.passives a (Some q) }) (with_reference r c a q.number)) (sym told.2)
    (referred_shows s r c e.number a is on low within (or_left (is_number e.number (found_at s.core c)) (nat_lt 0 (passive_of s.core c e.number)) has))

-- what a copy leaves
pub copy_shows : (s : SessionState) (r : Registry) (c b : ℕ) (p q : CorePsref) → IsSession s → Shows s r → c < s.core.settings.cpus → b < length s.passives
    → psref_copy s.core c p.number (refusal_of s.core c p) ≡ Ok q
    → Shows (record s { core = core.after_acquire s.core c (Ok q); passives = set s.passives b (Some q) }) (with_reference r c b q.number)
copy_shows s r c b p q is on low within answer =
    let told = copied_tells s.core c p.number (refusal_of s.core c p) q answer in
    let held = (used_tells s.core c p told.0).1 in
    subst (λ (x : CorePsref). Shows (record s { core = core.after_acquire s.core c (Ok x); passives = set s.passives b (Some x) }) (with_reference r c b x.number)) (sym told.1)
    (referred_shows s r c p.number b is on low within (or_right (is_number p.number (found_at s.core c)) (nat_lt 0 (passive_of s.core c p.number)) held))

-- what a release leaves
pub release_shows : (s : SessionState) (r : Registry) (c a : ℕ) (p : CorePsref) → IsSession s → Shows s r → c < s.core.settings.cpus → a < length s.passives
    → refusal_of s.core c p ≡ None
    → Shows (record s { core = core.after_release {X = Unit {0}} s.core c p.number (Ok tt); passives = set s.passives a None }) (without_reference r c a p.number)
release_shows s r c a p is on low within answer = released_shows s r c p.number a is on low within (used_tells s.core c p answer).1

-- a read leaves what there was, refused or not
pub read_shows : {X : Type 0} (s : SessionState) (r : Registry) (result : Result X Refusal) → Shows s r → Shows (with_core s (core.after_read s.core result)) r
read_shows s r (Ok x) on = seated_shows s r on
read_shows s r (Err f) on = on

-- Labels

pub passive_label_is : (s : SessionState) (r : Registry) (a : ℕ) (o : Option CorePsref) → Shows s r → get_or s.passives a None ≡ o → r.passive_labels a ≡ o
passive_label_is s r a o on at = on.labels.passive a ∙ at

-- what follows from a label that has a reference, or none
pub at_label : {L X : Type 0} (label : Option L) (l : L) (f : L → Result X Hitch) → label ≡ Some l → with_label label f ≡ f l
at_label {L} label l f is = ap (λ (o : Option L). with_label o f) is

pub at_free_label : {L X : Type 0} (label : Option L) (answer : Result X Hitch) → label ≡ None → if_free label answer ≡ answer
at_free_label {L} label answer is = ap (λ (o : Option L). if_free o answer) is

pub at_taken_label : {L X : Type 0} (label : Option L) (l : L) (answer : Result X Hitch) → label ≡ Some l → if_free label answer ≡ Err LabelTaken
at_taken_label {L} label l answer is = ap (λ (o : Option L). if_free o answer) is

-- a command's result, if its labels have what it needs
pub reference_answers : (s : SessionState) (r : Registry) (c a : ℕ) → Shows s r → get_or s.passives a None ≡ None
    → reference_answer r c a ≡ command_answer (number_if (psref_to_found s.core c (found_at s.core c)))
reference_answers s r c a on free =
    at_free_label (r.passive_labels a) (command_answer (acquire_answer r c (r.model.found c))) (passive_label_is s r a None on free)
    ∙ ap command_answer (sym (acquire_answers s r c on))

pub copy_reference_answers : (s : SessionState) (r : Registry) (c a b : ℕ) (p : CorePsref) → Shows s r → get_or s.passives a None ≡ Some p → get_or s.passives b None ≡ None
    → copy_answer r c a b ≡ command_answer (number_if (psref_copy s.core c p.number (refusal_of s.core c p)))
copy_reference_answers s r c a b p on at free =
    at_label (r.passive_labels a) p (λ q. if_free (r.passive_labels b) (command_answer (unless (misuse r c q) (one_more r c q.number)))) (passive_label_is s r a (Some p) on at)
    ∙ (at_free_label (r.passive_labels b) (command_answer (unless (misuse r c p) (one_more r c p.number))) (passive_label_is s r b None on free)
    ∙ ap command_answer (sym (copy_answers s r c p on)))

pub copy_taken_answers : (s : SessionState) (r : Registry) (c a b : ℕ) (p q : CorePsref) → Shows s r → get_or s.passives a None ≡ Some p → get_or s.passives b None ≡ Some q
    → copy_answer r c a b ≡ Err LabelTaken
copy_taken_answers s r c a b p q on at taken =
    at_label (r.passive_labels a) p (λ x. if_free (r.passive_labels b) (command_answer (unless (misuse r c x) (one_more r c x.number)))) (passive_label_is s r a (Some p) on at)
    ∙ at_taken_label (r.passive_labels b) q (command_answer (unless (misuse r c p) (one_more r c p.number))) (passive_label_is s r b (Some q) on taken)

pub held_answers : (s : SessionState) (r : Registry) (c a : ℕ) (p : CorePsref) → Shows s r → get_or s.passives a None ≡ Some p → held_answer r c a ≡ Ok (nat_lt 0 (passive_of s.core c p.number))
held_answers s r c a p on at =
    at_label (r.passive_labels a) p (λ q. Ok (nat_lt 0 (r.model.passive c q.number))) (passive_label_is s r a (Some p) on at)
    ∙ ap (λ (b : Bool). Ok b) (sym (held_is s r c p on))

pub read_reference_answers : (s : SessionState) (r : Registry) (c a : ℕ) (p : CorePsref) (result : Result Record Refusal) → Shows s r → get_or s.passives a None ≡ Some p
    → Answers (refusal_of s.core c p) (IsRecordOf s.core.history p.number) result → read_answer r c a ≡ command_answer (image (read_of p.number) result)
read_reference_answers s r c a p result on at is =
    at_label (r.passive_labels a) p (λ q. command_answer (unless (misuse r c q) (Ok (reading_of r q.number)))) (passive_label_is s r a (Some p) on at)
    ∙ ap command_answer (sym (read_answers s r c p result on is))

pub release_reference_answers : (s : SessionState) (r : Registry) (c a : ℕ) (p : CorePsref) (result : Result (Unit {0}) Refusal) → Shows s r → get_or s.passives a None ≡ Some p
    → Answers (refusal_of s.core c p) (λ done. Unit {0}) result → release_answer r c a ≡ command_answer (image (λ done. p.number) result)
release_reference_answers s r c a p result on at is =
    at_label (r.passive_labels a) p (λ q. command_answer (unless (misuse r c q) (Ok q.number))) (passive_label_is s r a (Some p) on at)
    ∙ ap command_answer (sym (release_answers s r c p result on is))

-- Sessions

-- a session stays one where the live references and their labels do
pub same_session : (s : SessionState) (now : State) (passives : List (Option CorePsref)) → IsSession s → Holds now → IsQuiet now → now.locals ≡ s.core.locals → length passives ≡ length s.passives
    → IsSession (record s { core = now; passives = passives })
same_session s now passives session holds quiet same long = record {
  holds = holds;
  quiet = quiet;
  passive_labels = long ∙ session.passive_labels;
  local_labels = session.local_labels;
  live = λ x id at. ap (λ (places : List LocalPlace). is_some (number_standing (local_at places id))) same ∙ session.live x id at;
  apart = session.apart;
}

more_places : (s : State) (c : ℕ) (o : Option ℕ) → (with_one_more s c o).locals ≡ s.locals
more_places s c None = refl
more_places s c (Some t) = refl

-- the commands on passive references leave the local ones
pub acquire_places : (s : State) (c : ℕ) (result : Result CorePsref Refusal) → (core.after_acquire s c result).locals ≡ s.locals
acquire_places s c (Ok p) = more_places s c (slot_of s.slots p.number)
acquire_places s c (Err f) = refl
