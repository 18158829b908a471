-- What a call of a session gave and left, also one on references, from what the core's call did.
use Rattle.std.proofs.Common.{◌≡◌, ℕ, ◌<◌, Option, Bool, true, refl, sym, ap, subst, ◌∙◌, get_or, set, Some, None, false, nat_lt, arith}
use Rattle.std.specs.Prelude.{IfOk, Result, Ok, Err, [], is_ok, IsErr, IsErrAnd, IsTrue}
use Rattle.std.proofs.lemmas.Option.{same_Some}
use Rattle.registry_report.specs.Types.{Entry, Record, Refusal, Stage, Key, Live, CorePsref, NoMemory, Standing}
use Rattle.registry_values.specs.Common.{slot_at, is_lawful, Answers, is_iface}
use Rattle.protocol.specs.Common.{Holds, State, least_id, number_standing, with_local, found_at, local_at}
use Rattle.protocol.specs.Events as events
use Rattle.protocol.proofs.Either.{either}
use Rattle.passive_core.specs.Common.{AdvanceLeaves, DestroyLeaves, IsAnswer, after_attach, IsDetachAnswer, IsLookupNow, after_detach, all_seated, after_enter_command, after_exit_command, after_find, PerformLeaves, after_attach_iface, IsCounted, after_acquire_local, after_counting, with_count_more, after_release_local, count_refusal, IsRecordOf, psref_to_found, psref_copy, passive_of, refusal_of}
use Rattle.passive_core.specs.Advancing as advancing
use Rattle.passive_core.specs.Attaching as attaching
use Rattle.passive_core.specs.Commands as entering
use Rattle.passive_core.specs.References as core
use Rattle.passive_core.proofs.Passives.{found_slot}
use Rattle.registry_report.specs.Common.{Hitch, Gives, Leaves, Registry, SessionState, with_core, IsSession, Shows, NoLabel, Refused, label_answer, Reading}
use Rattle.registry_report.specs.Turns
use Rattle.registry_report.proofs.calls.Changed.{attach_done, detach_done, plug_done}
use Rattle.registry_report.proofs.calls.Walked.{gives, leaves, enter_done, exit_inside, find_inside}
use Rattle.registry_report.proofs.calls.Sessions.{detached_locals, live_place, new_place}
use Rattle.registry_report.proofs.shows.Staged.{advance_answers, advance_shows, destroy_answers, destroy_shows, perform_answers, perform_shows}
use Rattle.registry_report.proofs.shows.Counted.{Counts, acquire_local_shows, count_error, label_is, label_none, refuses, release_local_shows, uncount_answers}
use Rattle.registry_report.proofs.shows.Referred.{acquire_shows, at_free_label, at_taken_label, copy_reference_answers, copy_shows, copy_taken_answers, held_answers, number_if, image, read_of, read_reference_answers, read_shows, reading_is, reference_answers, release_reference_answers, release_shows, seated_shows}

-- What a call of a session gave and left, from what the core's call did: `v` is the session as its callers see it, `k` the core afterwards.

-- a call gave what is due and left what shows the registry
abbrev pub Does : {X : Type 0} → Result X Hitch → Result X Hitch → SessionState → Registry → Type 0
Does given answer s r = Gives given answer × Leaves given (Shows s r)

-- the same of what callers see
pub seen : (s v : SessionState) (r : Registry) → s ≡ v → Shows v r → Shows s r
seen s v r is on = subst (λ (x : SessionState). Shows x r) (sym is) on

-- in the core's words
as_given : {X : Type 0} (result : Result X Refusal) (given answer : Result X Hitch) (s : SessionState) (r : Registry) → given ≡ Turns.command_answer result → Does (Turns.command_answer result) answer s r
    → Does given answer s r
as_given result given answer s r is does = subst (λ (g : Result _ Hitch). Does g answer s r) (sym is) does

-- with the core that was left
as_left : {X : Type 0} (given answer : Result X Hitch) (s : SessionState) (k left : State) (r : Registry) → k ≡ left → Does given answer (with_core s left) r → Does given answer (with_core s k) r
as_left given answer s k left r is does = subst (λ (x : State). Does given answer (with_core s x) r) (sym is) does

pub attach_does : (s v : SessionState) (k : State) (r : Registry) (c : ℕ) (rec : Record) (result : Result Entry Refusal) (given : Result Entry Hitch) → s ≡ v → IsSession s → Shows v r
    → given ≡ Turns.command_answer result
    → IsAnswer (attaching.attach_answer s.core c rec) result → k ≡ after_attach s.core c result → Holds k
    → Does given (Turns.command_answer (Turns.attach_answer r c rec)) (with_core s k) (Turns.on_ok r (Turns.attach_answer r c rec) (Turns.with_attached r c))
attach_does s v k r c rec result given view is on told due left holds =
    as_given result given (Turns.command_answer (Turns.attach_answer r c rec)) (with_core s k) (Turns.on_ok r (Turns.attach_answer r c rec) (Turns.with_attached r c)) told
    (as_left (Turns.command_answer result) (Turns.command_answer (Turns.attach_answer r c rec)) s k (after_attach s.core c result) (Turns.on_ok r (Turns.attach_answer r c rec) (Turns.with_attached r c)) left
    (attach_done s r c rec result is.holds (seen s v r view on) due (subst Holds left holds)))

if_ok : {X E : Type 0} (P : X → Type 0) (result : Result X E) (x : X) → IfOk result P → result ≡ Ok x → P x
if_ok P result x has is = subst (λ (q : Result _ _). IfOk q P) is has

pub detach_does : (s v : SessionState) (k : State) (r : Registry) (c : ℕ) (key : Key) (result : Result Entry Refusal) (given : Result Entry Hitch) → s ≡ v → IsSession s → Shows v r
    → given ≡ Turns.command_answer result
    → IsDetachAnswer s.core c key result → IfOk result (λ e. slot_at s.core.slots e.slot ≡ Live e) → k ≡ after_detach s.core c result → Holds k
    → Does given (Turns.command_answer (Turns.detach_answer r c key)) (with_core s k) (Turns.on_ok r (Turns.detach_answer r c key) (Turns.with_detached r c))
detach_does s v k r c key result given view is on told due live left holds =
    as_given result given (Turns.command_answer (Turns.detach_answer r c key)) (with_core s k) (Turns.on_ok r (Turns.detach_answer r c key) (Turns.with_detached r c)) told
    (as_left (Turns.command_answer result) (Turns.command_answer (Turns.detach_answer r c key)) s k (after_detach s.core c result) (Turns.on_ok r (Turns.detach_answer r c key) (Turns.with_detached r c)) left
    (detach_done s r c key result is.holds (seen s v r view on) due (subst Holds left holds) (λ e done. if_ok (λ (x : Entry). slot_at s.core.slots x.slot ≡ Live x) result e live done)))

pub enter_does : (s v : SessionState) (k : State) (r : Registry) (c : ℕ) (result : Result (Unit {0}) Refusal) (given : Result (Unit {0}) Hitch) → s ≡ v → IsSession s → Shows v r
    → given ≡ Turns.command_answer result
    → c < s.core.settings.cpus → result ≡ entering.enter_answer s.core c → k ≡ after_enter_command s.core c
    → Does given (Turns.command_answer (Turns.enter_answer r c)) (with_core s k) (Turns.on_ok r (Turns.enter_answer r c) (λ done. Turns.with_section_entered r c))
enter_does s v k r c result given view is on told low due left =
    as_given result given (Turns.command_answer (Turns.enter_answer r c)) (with_core s k) _ told (as_left (Turns.command_answer result) (Turns.command_answer (Turns.enter_answer r c)) s k (after_enter_command s.core c) _ left
    (enter_done s r c result is.holds (seen s v r view on) low due))

-- a result that is the core's, and a registry that is shown
told_does : {X : Type 0} (result answer : Result X Refusal) (given : Result X Hitch) (s : SessionState) (r : Registry) → given ≡ Turns.command_answer result → answer ≡ result → Shows s r
    → Does given (Turns.command_answer answer) s r
told_does result answer given s r told is on =
    as_given result given (Turns.command_answer answer) s r told (gives (Turns.command_answer result) (Turns.command_answer answer) (ap Turns.command_answer is), leaves (Turns.command_answer result) s r on)

pub advance_does : (s v : SessionState) (k : State) (r : Registry) (n : ℕ) (result : Result Stage Refusal) (given : Result Stage Hitch) → s ≡ v → IsSession s → Shows v r
    → given ≡ Turns.command_answer result
    → result ≡ advancing.advance_answer s.core n → AdvanceLeaves s.core k n result → Holds k → Does given (Turns.command_answer (Turns.advance_answer r n)) (with_core s k) (Turns.after_advance r n)
advance_does s v k r n result given view is on told due left holds =
    told_does result (Turns.advance_answer r n) given (with_core s k) (Turns.after_advance r n) told (sym (advance_answers s r n is (seen s v r view on)) ∙ sym due)
    (advance_shows s r k n is holds (seen s v r view on) (subst (AdvanceLeaves s.core k n) due left))

pub destroy_does : (s v : SessionState) (k : State) (r : Registry) (c n : ℕ) (result : Result ℕ Refusal) (given : Result ℕ Hitch) → s ≡ v → IsSession s → Shows v r → given ≡ Turns.command_answer result
    → result ≡ advancing.destroy_answer s.core c n → DestroyLeaves s.core k n result → Holds k → Does given (Turns.command_answer (Turns.destroy_answer r c n)) (with_core s k) (Turns.after_destroy r c n)
destroy_does s v k r c n result given view is on told due left holds =
    told_does result (Turns.destroy_answer r c n) given (with_core s k) (Turns.after_destroy r c n) told (sym (destroy_answers s r c n is (seen s v r view on)) ∙ sym due)
    (destroy_shows s r k c n is holds (seen s v r view on) (subst (DestroyLeaves s.core k n) due left))

pub perform_does : (s v : SessionState) (k : State) (r : Registry) (c : ℕ) (result : Result (Unit {0}) Refusal) (given : Result (Unit {0}) Hitch) → s ≡ v → Shows v r → given ≡ Turns.command_answer result
    → result ≡ advancing.perform_answer s.core c → PerformLeaves s.core k result → Does given (Turns.command_answer (Turns.perform_answer r c)) (with_core s k) r
perform_does s v k r c result given view on told due left =
    told_does result (Turns.perform_answer r c) given (with_core s k) r told (sym (perform_answers s r c (seen s v r view on)) ∙ sym due)
    (perform_shows s r k c (seen s v r view on) (subst (PerformLeaves s.core k) due left))

-- Exits and lookups

pub exit_does : (s v : SessionState) (k : State) (r : Registry) (c : ℕ) (stays : Bool) → s ≡ v → IsSession s → Shows v r → c < s.core.settings.cpus → events.is_inside s.core c ≡ true
    → k ≡ after_exit_command s.core c → stays ≡ events.is_inside k c
    → Does (Ok stays) (Turns.exit_answer r c) (with_core s k) (Turns.on_ok r (Turns.exit_answer r c) (Turns.with_section_exited r c))
exit_does s v k r c stays view is on low in_ left open_ =
    let does = exit_inside s r c stays is.holds (seen s v r view on) low in_ (open_ ∙ ap (λ (x : State). events.is_inside x c) left) in
    (does.0, subst (λ (x : State). Shows (with_core s x) (Turns.on_ok r (Turns.exit_answer r c) (Turns.with_section_exited r c))) (sym left) does.1)

pub find_does : (s v : SessionState) (k : State) (r : Registry) (c : ℕ) (key : Key) (found : Option Entry) → s ≡ v → IsSession s → Shows v r → c < s.core.settings.cpus
    → events.is_inside s.core c ≡ true → IsLookupNow s.core key found
    → k ≡ after_find (all_seated s.core) c found → Does (Ok found) (Turns.find_answer r c key) (with_core s k) (Turns.on_ok r (Turns.find_answer r c key) (Turns.with_found r c))
find_does s v k r c key found view is on low in_ answer left =
    let does = find_inside s r c key found is.holds (seen s v r view on) low in_ answer in
    (does.0, subst (λ (x : State). Shows (with_core s x) (Turns.on_ok r (Turns.find_answer r c key) (Turns.with_found r c))) (sym left) does.1)

-- a detach leaves the places of local references
pub detach_places : (s : State) (c : ℕ) (result : Result Entry Refusal) → (after_detach s c result).locals ≡ s.locals
detach_places s c (Ok e) = detached_locals s c e
detach_places s c (Err f) = refl

-- What the calls on references gave and left: `v` is the session as its callers see it, `k` the core afterwards.

-- a refusal came back as a hitch
pub told_err : {X : Type 0} (result : Result X Hitch) (f : Refusal) → IsErr result × IsErrAnd result (λ h. h ≡ Refused f) → result ≡ Err (Refused f)
told_err (Ok x) f told = absurd (let q : ◌≡◌ {A = Bool} false true = told.0 in cc)
told_err (Err h) f told = ap (λ (g : Hitch). Err g) told.1

-- a label that is not filled has no reference
pub unfilled : {X : Type 0} (o : Option X) (h : Hitch) → label_answer o ≡ Err h → o ≡ None
unfilled None h is = refl
unfilled (Some x) h is = absurd (let q : ◌≡◌ {A = Result _ Hitch} (Ok x) (Err h) = is in cc)

-- a label that was tested has no reference, or has one
free_by : {X : Type 0} (o : Option X) (b : Bool) → b ≡ is_ok (label_answer o) → b ≡ false → o ≡ None
free_by None b test is = refl
free_by (Some x) b test is = absurd (let q : ◌≡◌ {A = Bool} true false = sym test ∙ is in cc)

taken_by : {X : Type 0} (o : Option X) (b : Bool) → b ≡ is_ok (label_answer o) → b ≡ true → (x : X) × (o ≡ Some x)
taken_by None b test is = absurd (let q : ◌≡◌ {A = Bool} false true = sym test ∙ is in cc)
taken_by (Some x) b test is = (x, refl)

pub free_label : {X : Type 0} (o : Option X) (found : Result X Hitch) (b : Bool) → found ≡ label_answer o → b ≡ is_ok found → b ≡ false → o ≡ None
free_label o found b is test no_ = free_by o b (test ∙ ap (λ (q : Result _ Hitch). is_ok q) is) no_

pub taken_label : {X : Type 0} (o : Option X) (found : Result X Hitch) (b : Bool) → found ≡ label_answer o → b ≡ is_ok found → b ≡ true → (x : X) × (o ≡ Some x)
taken_label o found b is test yes_ = taken_by o b (test ∙ ap (λ (q : Result _ Hitch). is_ok q) is) yes_

-- a label whose reference is looked up names a live one
live_number : (s : SessionState) (x id : ℕ) → IsSession s → get_or s.locals x None ≡ Some id → (n : ℕ) × (local_at s.core.locals id ≡ Standing n)
live_number s x id is at = live_place (local_at s.core.locals id) (is.live x id at)

-- what a result that isn't due leaves
pub unanswered : {X : Type 0} (given answer : Result X Hitch) (h : Hitch) (s : SessionState) (r : Registry) (f : X → Registry) → answer ≡ Err h → Shows s r → Leaves given (Shows s (Turns.on_ok r answer f))
unanswered given answer h s r f is on = leaves given s (Turns.on_ok r answer f) (subst (λ (a : Result _ Hitch). Shows s (Turns.on_ok r a f)) (sym is) on)

-- a result that is refused gives and leaves nothing
refused_does : {X : Type 0} (given answer : Result X Hitch) (f : Refusal) (s v : SessionState) (k : State) (r : Registry) (then : X → Registry) → given ≡ Err (Refused f) → answer ≡ Err (Refused f)
    → k ≡ s.core → Shows s r
    → Does given answer (with_core s k) (Turns.on_ok r answer then)
refused_does given answer f s v k r then told is left on =
    (gives given answer (is ∙ sym told), unanswered given answer (Refused f) (with_core s k) r then is (subst (λ (x : State). Shows (with_core s x) r) (sym left) on))

-- Passive references

pub reference_does : (s v : SessionState) (k : State) (r : Registry) (c a : ℕ) (p : CorePsref) → s ≡ v → IsSession s → Shows v r → c < s.core.settings.cpus → a < 26 → get_or s.passives a None ≡ None
    → Ok p ≡ psref_to_found s.core c (found_at s.core c) → k ≡ core.after_acquire s.core c (Ok p)
    → Does (Ok p.number) (Turns.reference_answer r c a) (record { core = k; passives = set s.passives a (Some p); locals = s.locals }) (Turns.on_ok r (Turns.reference_answer r c a) (Turns.with_reference r c a))
reference_does s v k r c a p view is on low small free due left =
    let sees = seen s v r view on in
    let answer : Turns.reference_answer r c a ≡ Ok p.number = reference_answers s r c a sees free ∙ ap (λ (q : Result CorePsref Refusal). Turns.command_answer (number_if q)) (sym due) in
    let shows = acquire_shows s r c a p is sees low (omega (arith, is.passive_labels)) (sym due) in (
      answer,
      subst (λ (b : Result ℕ Hitch). Shows (record { core = k; passives = set s.passives a (Some p); locals = s.locals }) (Turns.on_ok r b (Turns.with_reference r c a))) (sym answer)
          (subst (λ (x : State). Shows (record { core = x; passives = set s.passives a (Some p); locals = s.locals }) (Turns.with_reference r c a p.number)) (sym left) shows),
    )

pub copy_fails : (s v : SessionState) (k : State) (r : Registry) (c a b : ℕ) (p : CorePsref) (f : Refusal) (given : Result ℕ Hitch) → s ≡ v → Shows v r → get_or s.passives a None ≡ Some p
    → get_or s.passives b None ≡ None
    → Err f ≡ psref_copy s.core c p.number (refusal_of s.core c p) → k ≡ core.after_acquire s.core c (Err f) → given ≡ Err (Refused f)
    → Does given (Turns.copy_answer r c a b) (with_core s k) (Turns.on_ok r (Turns.copy_answer r c a b) (Turns.with_reference r c b))
copy_fails s v k r c a b p f given view on at free due left told =
    let sees = seen s v r view on in
    let answer : Turns.copy_answer r c a b ≡ Err (Refused f) = copy_reference_answers s r c a b p sees at free ∙ ap (λ (q : Result CorePsref Refusal). Turns.command_answer (number_if q)) (sym due) in
    refused_does given (Turns.copy_answer r c a b) f s v k r (Turns.with_reference r c b) told answer left sees

-- a copy under a label that has a reference leaves what there was
pub copy_taken : (v : SessionState) (r : Registry) (c a b : ℕ) (p q : CorePsref) → Shows v r → get_or v.passives a None ≡ Some p → get_or v.passives b None ≡ Some q
    → Shows v (Turns.on_ok r (Turns.copy_answer r c a b) (Turns.with_reference r c b))
copy_taken v r c a b p q on at taken = subst (λ (x : Result ℕ Hitch). Shows v (Turns.on_ok r x (Turns.with_reference r c b))) (sym (copy_taken_answers v r c a b p q on at taken)) on

pub copy_does : (s v : SessionState) (k : State) (r : Registry) (c a b : ℕ) (p q : CorePsref) → s ≡ v → IsSession s → Shows v r → c < s.core.settings.cpus → b < 26 → get_or s.passives a None ≡ Some p
    → get_or s.passives b None ≡ None
    → Ok q ≡ psref_copy s.core c p.number (refusal_of s.core c p) → k ≡ core.after_acquire s.core c (Ok q)
    → Does (Ok q.number) (Turns.copy_answer r c a b) (record { core = k; passives = set s.passives b (Some q); locals = s.locals }) (Turns.on_ok r (Turns.copy_answer r c a b) (Turns.with_reference r c b))
copy_does s v k r c a b p q view is on low small at free due left =
    let sees = seen s v r view on in
    let answer : Turns.copy_answer r c a b ≡ Ok q.number = copy_reference_answers s r c a b p sees at free ∙ ap (λ (x : Result CorePsref Refusal). Turns.command_answer (number_if x)) (sym due) in
    let shows = copy_shows s r c b p q is sees low (omega (arith, is.passive_labels)) (sym due) in (
      answer,
      subst (λ (x : Result ℕ Hitch). Shows (record { core = k; passives = set s.passives b (Some q); locals = s.locals }) (Turns.on_ok r x (Turns.with_reference r c b))) (sym answer)
          (subst (λ (x : State). Shows (record { core = x; passives = set s.passives b (Some q); locals = s.locals }) (Turns.with_reference r c b q.number)) (sym left) shows),
    )

pub held_gives : (s v : SessionState) (r : Registry) (c a : ℕ) (p : CorePsref) (answer : Bool) → s ≡ v → Shows v r → get_or s.passives a None ≡ Some p
    → answer ≡ nat_lt 0 (passive_of s.core c p.number) → Turns.held_answer r c a ≡ Ok answer
held_gives s v r c a p answer view on at is = held_answers s r c a p (seen s v r view on) at ∙ ap (λ (b : Bool). Ok b) (sym is)

pub read_gives : (s v : SessionState) (r : Registry) (c a : ℕ) (p : CorePsref) (result : Result Record Refusal) → s ≡ v → Shows v r → get_or s.passives a None ≡ Some p
    → Answers (refusal_of s.core c p) (IsRecordOf s.core.history p.number) result
    → Turns.read_answer r c a ≡ Turns.command_answer (image (read_of p.number) result)
read_gives s v r c a p result view on at is = read_reference_answers s r c a p result (seen s v r view on) at is

pub read_leaves : (s v : SessionState) (k : State) (r : Registry) (result : Result Record Refusal) → s ≡ v → Shows v r → k ≡ core.after_read s.core result → Shows (with_core s k) r
read_leaves s v k r result view on left = subst (λ (x : State). Shows (with_core s x) r) (sym left) (read_shows s r result (seen s v r view on))

pub release_fails : (s v : SessionState) (k : State) (r : Registry) (c a : ℕ) (p : CorePsref) (f : Refusal) (given : Result ℕ Hitch) → s ≡ v → Shows v r → get_or s.passives a None ≡ Some p
    → Answers {X = Unit {0}} (refusal_of s.core c p) (λ done. Unit {0}) (Err f) → k ≡ core.after_release {X = Unit {0}} s.core c p.number (Err f) → given ≡ Err (Refused f)
    → Does given (Turns.release_answer r c a) (with_core s k) (Turns.on_ok r (Turns.release_answer r c a) (Turns.without_reference r c a))
release_fails s v k r c a p f given view on at is left told =
    let sees = seen s v r view on in
    refused_does given (Turns.release_answer r c a) f s v k r (Turns.without_reference r c a) told (release_reference_answers s r c a p (Err f) sees at is) left sees

pub release_does : (s v : SessionState) (k : State) (r : Registry) (c a : ℕ) (p : CorePsref) → s ≡ v → IsSession s → Shows v r → c < s.core.settings.cpus → a < 26 → get_or s.passives a None ≡ Some p
    → refusal_of s.core c p ≡ None → k ≡ core.after_release {X = Unit {0}} s.core c p.number (Ok tt)
    → Does (Ok p.number) (Turns.release_answer r c a) (record { core = k; passives = set s.passives a None; locals = s.locals }) (Turns.on_ok r (Turns.release_answer r c a) (Turns.without_reference r c a))
release_does s v k r c a p view is on low small at may left =
    let sees = seen s v r view on in
    let answer : Turns.release_answer r c a ≡ Ok p.number = release_reference_answers s r c a p (Ok tt) sees at (may, tt) in
    let shows = release_shows s r c a p is sees low (omega (arith, is.passive_labels)) may in (
      answer,
      subst (λ (b : Result ℕ Hitch). Shows (record { core = k; passives = set s.passives a None; locals = s.locals }) (Turns.on_ok r b (Turns.without_reference r c a))) (sym answer)
          (subst (λ (x : State). Shows (record { core = x; passives = set s.passives a None; locals = s.locals }) (Turns.without_reference r c a p.number)) (sym left) shows),
    )

-- Local references

pub taken_leaves : (v : SessionState) (r : Registry) (c x : ℕ) (id : ℕ) → Shows v r → IsSession v → get_or v.locals x None ≡ Some id → Shows v (Turns.on_ok r (Turns.count_answer r c x) (Turns.with_one_counted r c x))
taken_leaves v r c x id on is at =
    let n = live_number v x id is at in
    let label = label_is v r x id n.0 on at (ap number_standing n.1) in
    subst (λ (a : Result ℕ Hitch). Shows v (Turns.on_ok r a (Turns.with_one_counted r c x))) (sym (at_taken_label (r.local_labels x) n.0 (Turns.command_answer (Turns.count_of_found r c (r.model.found c))) label)) on

pub count_fails : (s v : SessionState) (k : State) (r : Registry) (c x : ℕ) (f : Refusal) (given : Result ℕ Hitch) → s ≡ v → IsSession s → Shows v r → c < s.core.settings.cpus
    → get_or s.locals x None ≡ None
    → IsCounted s.core (count_refusal s.core c (found_at s.core c)) (Err f) → k ≡ after_acquire_local s.core c (Err f) → given ≡ Err (Refused f)
    → Does given (Turns.count_answer r c x) (with_core s k) (Turns.on_ok r (Turns.count_answer r c x) (Turns.with_one_counted r c x))
count_fails s v k r c x f given view is on low free due left told =
    let sees = seen s v r view on in
    either (count_error s.core (count_refusal s.core c (found_at s.core c)) f due)
    (λ full.
    let none : given ≡ Err (Refused NoMemory) = told ∙ ap (λ (g : Refusal). Err (Refused g)) full in
    subst (λ (g : Result ℕ Hitch). Does g (Turns.count_answer r c x) (with_core s k) (Turns.on_ok r (Turns.count_answer r c x) (Turns.with_one_counted r c x))) (sym none) (tt, tt))
    (λ why.
    let answer : Turns.count_answer r c x ≡ Err (Refused f) =
    at_free_label (r.local_labels x) (Turns.command_answer (Turns.count_of_found r c (r.model.found c))) (label_none s r x sees free) ∙ ap Turns.command_answer (refuses s r c f is.holds sees low why) in
    refused_does given (Turns.count_answer r c x) f s v k r (Turns.with_one_counted r c x) told answer left sees)

-- the place of the new reference says the number found
new_number : (s k : State) (c id : ℕ) (e : Entry) → Holds s → found_at s c ≡ Some e → id ≡ least_id s.locals → k ≡ after_acquire_local s c (Ok id)
    → number_standing (local_at k.locals id) ≡ Some e.number
new_number s k c id e holds found least left =
    let at = found_slot s c e holds found in
    let places : k.locals ≡ with_local s.locals (least_id s.locals) (Standing e.number) =
    ap (λ (x : State). x.locals) left ∙ (ap (λ (o : Option Entry). (after_counting s c o).locals) found ∙ ap (λ (o : Option ℕ). (with_count_more s c e.number o).locals) at.1) in
    ap number_standing (new_place (record { core = s; passives = []; locals = [] }) k id e.number least places)

abbrev with_local_label : SessionState → State → ℕ → Option ℕ → SessionState
with_local_label s core x id = record { core = core; passives = s.passives; locals = set s.locals x id }

pub count_does : (s v : SessionState) (k : State) (r : Registry) (c x id n : ℕ) → s ≡ v → IsSession s → Shows v r → c < s.core.settings.cpus → x < 26 → get_or s.locals x None ≡ None
    → IsCounted s.core (count_refusal s.core c (found_at s.core c)) (Ok id) → k ≡ after_acquire_local s.core c (Ok id) → number_standing (local_at k.locals id) ≡ Some n
    → Does (Ok n) (Turns.count_answer r c x) (with_local_label s k x (Some id)) (Turns.on_ok r (Turns.count_answer r c x) (Turns.with_one_counted r c x))
count_does s v k r c x id n view is on low small free due left live =
    let sees = seen s v r view on in
    let counts : Counts s r c x id = acquire_local_shows s r c x id is sees low (omega (arith, is.local_labels)) due in
    let answer : Turns.count_answer r c x ≡ Ok counts.entry.number =
    at_free_label (r.local_labels x) (Turns.command_answer (Turns.count_of_found r c (r.model.found c))) (label_none s r x sees free) ∙ ap Turns.command_answer counts.answers in
    let shows : Shows (with_local_label s k x (Some id)) (Turns.with_one_counted r c x counts.entry.number) =
    subst (λ (q : State). Shows (with_local_label s q x (Some id)) (Turns.with_one_counted r c x counts.entry.number)) (sym left) counts.shows in
    let same : counts.entry.number ≡ n = same_Some counts.entry.number n (sym (new_number s.core k c id counts.entry is.holds counts.found due.1 left) ∙ live) in (
      answer ∙ ap (λ (m : ℕ). Ok m) same,
      subst (λ (b : Result ℕ Hitch). Shows (with_local_label s k x (Some id)) (Turns.on_ok r b (Turns.with_one_counted r c x))) (sym answer) shows,
    )

pub peek_gives : (s v : SessionState) (r : Registry) (x id n : ℕ) (rec : Record) → s ≡ v → Shows v r → get_or s.locals x None ≡ Some id → number_standing (local_at s.core.locals id) ≡ Some n
    → IsRecordOf s.core.history n rec → Turns.peek_answer r x ≡ Ok (read_of n rec)
peek_gives s v r x id n rec view on filled standing is =
    let sees = seen s v r view on in
    ap (λ (o : Option ℕ). Turns.with_label o (λ m. Ok (Turns.reading_of r m))) (label_is s r x id n sees filled standing) ∙ ap (λ (y : Reading). Ok y) (sym (reading_is s r n rec sees is))

pub peek_leaves : (s v : SessionState) (k : State) (r : Registry) → s ≡ v → Shows v r → k ≡ all_seated s.core → Shows (with_core s k) r
peek_leaves s v k r view on left = subst (λ (x : State). Shows (with_core s x) r) (sym left) (seated_shows s r (seen s v r view on))

pub uncount_none : (v : SessionState) (r : Registry) (c x : ℕ) (given : Result ℕ Hitch) → Shows v r → get_or v.locals x None ≡ None
    → Leaves given (Shows v (Turns.on_ok r (Turns.uncount_answer r x) (Turns.with_one_uncounted r c x)))
uncount_none v r c x given on none = unanswered given (Turns.uncount_answer r x) NoLabel v r (Turns.with_one_uncounted r c x) (ap (λ (o : Option ℕ). Turns.with_label o (λ n. Ok n)) (label_none v r x on none)) on

pub uncount_leaves : (s v : SessionState) (k : State) (r : Registry) (c x id n : ℕ) → s ≡ v → IsSession s → Shows v r → c < s.core.settings.cpus → x < 26 → get_or s.locals x None ≡ Some id
    → number_standing (local_at s.core.locals id) ≡ Some n
    → k ≡ after_release_local s.core c id → Shows (with_local_label s k x None) (Turns.on_ok r (Turns.uncount_answer r x) (Turns.with_one_uncounted r c x))
uncount_leaves s v k r c x id n view is on low small at live left =
    let sees = seen s v r view on in
    subst (λ (b : Result ℕ Hitch). Shows (with_local_label s k x None) (Turns.on_ok r b (Turns.with_one_uncounted r c x))) (sym (uncount_answers s r x id n sees at live))
    (subst (λ (q : State). Shows (with_local_label s q x None) (Turns.with_one_uncounted r c x n)) (sym left)
    (release_local_shows s r c x id n is sees low (omega (arith, is.local_labels)) at live))

-- Plug

pub plug_none : (v : SessionState) (r : Registry) (c x : ℕ) (rec : Record) (given : Result Entry Hitch) → Shows v r → get_or v.locals x None ≡ None
    → Leaves given (Shows v (Turns.after_plug r c x (Turns.plug_answer r c rec x)))
plug_none v r c x rec given on none = leaves given v (Turns.after_plug r c x (Turns.plug_answer r c rec x))
    (subst (λ (o : Option ℕ). Shows v (Turns.on_some r o (λ d. Turns.on_ok r (Turns.plug_answer r c rec x) (λ e. Turns.with_attached_iface r c e x d)))) (sym (label_none v r x on none)) on)

pub plug_fails : (s v : SessionState) (k : State) (r : Registry) (c x id : ℕ) (rec : Record) (f : Refusal) (given : Result Entry Hitch) → s ≡ v → IsSession s → Shows v r → x < 26
    → get_or s.locals x None ≡ Some id
    → is_iface rec.kind ≡ true → IsTrue (is_lawful rec.name) → IsAnswer (attaching.attach_iface_answer s.core c rec id) (Err f) → k ≡ after_attach_iface s.core c id (Err f) → given ≡ Err (Refused f)
    → Does given (Turns.plug_answer r c rec x) (with_core s k) (Turns.after_plug r c x (Turns.plug_answer r c rec x))
plug_fails s v k r c x id rec f given view is on small at iface lawful due left told =
    let n = live_number s x id is at in
    let done = plug_done s r c rec x id n.0 (Err f) is (seen s v r view on) small at n.1 iface lawful due is.holds in
    subst (λ (g : Result Entry Hitch). Does g (Turns.plug_answer r c rec x) (with_core s k) (Turns.after_plug r c x (Turns.plug_answer r c rec x))) (sym told)
    (subst (λ (q : State). Does (Err (Refused f)) (Turns.plug_answer r c rec x) (with_core s q) (Turns.after_plug r c x (Turns.plug_answer r c rec x))) (sym left) done)

pub plug_does : (s v : SessionState) (k : State) (r : Registry) (c x id : ℕ) (rec : Record) (e : Entry) → s ≡ v → IsSession s → Shows v r → x < 26 → get_or s.locals x None ≡ Some id
    → is_iface rec.kind ≡ true → IsTrue (is_lawful rec.name) → IsAnswer (attaching.attach_iface_answer s.core c rec id) (Ok e) → k ≡ after_attach_iface s.core c id (Ok e) → Holds k
    → Does (Ok e) (Turns.plug_answer r c rec x) (with_local_label s k x None) (Turns.after_plug r c x (Turns.plug_answer r c rec x))
plug_does s v k r c x id rec e view is on small at iface lawful due left holds =
    let n = live_number s x id is at in
    let done = plug_done s r c rec x id n.0 (Ok e) is (seen s v r view on) small at n.1 iface lawful due (subst Holds left holds) in
    subst (λ (q : State). Does (Ok e) (Turns.plug_answer r c rec x) (with_local_label s q x None) (Turns.after_plug r c x (Turns.plug_answer r c rec x))) (sym left) done
