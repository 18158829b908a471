-- The commands that change who is attached: what they give and leave.
use Rattle.std.proofs.Common.{◌≡◌, ℕ, suc, ◌<◌, inl, inr, List, length, get_or, set, replicate, Option, Some, None, Bool, true, false, refl, sym, ap, subst, ◌∙◌, arith}
use Rattle.std.specs.Prelude.{IsTrue, if◌then◌else◌, not, Result, Ok, Err}
use Rattle.std.proofs.lemmas.Bool.{cases_eq, not-false}
use Rattle.std.proofs.lemmas.List.{set-set}
use Rattle.registry_report.specs.Types.{Entry, Record, Change, Detach, Refusal, NoMemory, NotFound, Inside, Key, Standing, Mark, Vacant, Live, Retired, MOST_CPUS}
use Rattle.passive_core.specs.Attaching as core
use Rattle.passive_core.specs.Common.{IsAnswer, after_attach, after_attach_iface, all_seated, IsDetachAnswer, IsDetachRefusal, IsLookupNow, after_detach, with_all_snapshots, snapshot_row}
use Rattle.protocol.specs.Events as events
use Rattle.protocol.specs.Common.{after_seeing, with_retired, with_link_past, EndsAt, after_change, Holds, IsIn, SlotsShow, put, number_in, passive_in, State, local_at}
use Rattle.registry_values.specs.Common.{is_lawful, is_iface, slot_before, slot_of, slot_at, no_mark, found_answer}
use Rattle.registry_values.proofs.Answers.{attach_tells}
use Rattle.passive_core.proofs.Attaching.{given_tells, first_fit_tells, seated_keeps, iface_links}
use Rattle.protocol.proofs.History.{ended_within}
use Rattle.protocol.proofs.Occupied.{is_vacant_tells, in_other, in_unpublished, in_within, in_written, live_one}
use Rattle.protocol.proofs.model.RefiningSections.{unwritten}
use Rattle.protocol.proofs.model.RefiningEntries.{passive_moved}
use Rattle.registry_report.specs.Common.{attach_answer, attach_iface_answer, detach_answer, command_answer, lookup_now, plug_answer, with_label, Hitch, Refused, Gives, Leaves, Registry, SessionState, with_core, IsSession, Shows, ShowsModel, SnapshotsFollow, number_at, after_plug, with_attached, with_detached, with_reference_kept, on_ok, on_some, with_attached_iface}
use Rattle.registry_report.proofs.shows.Attached.{attach_answers, attach_iface_answers, keeping_shows, linked_shows, now_is, detach_counts, detach_follows, retired_tallies}
use Rattle.registry_report.proofs.calls.Walked.{gives, leaves}
use Rattle.registry_report.proofs.shows.Sectioned.{inside_is}
use Rattle.protocol.proofs.Either.{either}

-- Attach

-- where an attach is refused the answer is no entry
attached_shows : (s : SessionState) (r : Registry) (c : ℕ) (rec : Record) (e : Entry) → Holds s.core → Holds (core.with_attached s.core c e) → Shows s r → core.given_entry s.core rec ≡ Ok e
    → Shows (with_core s (core.with_attached s.core c e)) (with_attached r c e)
attached_shows s r c rec e holds later on is =
    let given = given_tells s.core rec e is in
    let fit = first_fit_tells s.core e.slot holds given.fit in
    let number : e.number ≡ suc (length s.core.history) = omega (arith, ap (λ (x : Entry). x.number) given.entry) in
    linked_shows (with_core s (all_seated s.core)) r c e (seated_keeps s.core holds) later (assumption) (omega (arith, fit.0, holds.shape.slots))
    (is_vacant_tells (slot_at s.core.slots e.slot) fit.1) number

-- what was given and left, of an answer a
abbrev AttachDone : SessionState → Registry → ℕ → Record → Result Entry Refusal → Type 0
AttachDone s r c rec result = Gives (command_answer result) (command_answer (attach_answer r c rec))
    × Leaves (command_answer result) (Shows (with_core s (after_attach s.core c result)) (on_ok r (attach_answer r c rec) (with_attached r c)))

attach_by : (s : SessionState) (r : Registry) (c : ℕ) (rec : Record) (a result : Result Entry Refusal) → Holds s.core → Shows s r → core.attach_answer s.core c rec ≡ a → IsAnswer a result
    → Holds (after_attach s.core c result) → AttachDone s r c rec result
attach_by s r c rec (Err f) result holds on at is later =
    let answer : attach_answer r c rec ≡ Err f = sym (attach_answers s r c rec holds on) ∙ at in
    subst (AttachDone s r c rec) (sym is) (
      gives (command_answer {X = Entry} (Err f)) (command_answer (attach_answer r c rec)) (ap command_answer answer),
      leaves (command_answer {X = Entry} (Err f)) s (on_ok r (attach_answer r c rec) (with_attached r c))
          (subst (λ (b : Result Entry Refusal). Shows s (on_ok r b (with_attached r c))) (sym answer) on),
    )
attach_by s r c rec (Ok e) result holds on at is later = either is
    (λ done.
    let answer : attach_answer r c rec ≡ Ok e = sym (attach_answers s r c rec holds on) ∙ at in
    let given : core.given_entry s.core rec ≡ Ok e = (attach_tells (events.is_inside s.core c) (is_iface rec.kind) (core.given_entry s.core rec) e at).2 in
    let kept : Holds (core.with_attached s.core c e) = subst (λ (b : Result Entry Refusal). Holds (after_attach s.core c b)) done later in
    subst (AttachDone s r c rec) (sym done) (
      ap command_answer answer,
      subst (λ (b : Result Entry Refusal). Shows (with_core s (core.with_attached s.core c e)) (on_ok r b (with_attached r c))) (sym answer) (attached_shows s r c rec e holds kept on given),
    ))
    (λ full. subst (AttachDone s r c rec) (sym full) (tt, tt))

pub attach_done : (s : SessionState) (r : Registry) (c : ℕ) (rec : Record) (result : Result Entry Refusal) → Holds s.core → Shows s r → IsAnswer (core.attach_answer s.core c rec) result
    → Holds (after_attach s.core c result) → AttachDone s r c rec result
attach_done s r c rec result holds on is later = attach_by s r c rec (core.attach_answer s.core c rec) result holds on refl is later

-- Plug

plugged_shows : (s : SessionState) (r : Registry) (c : ℕ) (rec : Record) (e : Entry) (x id n : ℕ) → IsSession s → Shows s r → x < 26 → get_or s.locals x None ≡ Some id
    → local_at s.core.locals id ≡ Standing n
    → core.is_to_driver s.core id ≡ true → is_iface rec.kind ≡ true → IsTrue (is_lawful rec.name) → Holds (core.with_attached_iface s.core c e id) → core.given_entry s.core rec ≡ Ok e
    → Shows (record s { core = core.with_attached_iface s.core c e id; locals = set s.locals x None }) (with_attached_iface r c e x n)
plugged_shows s r c rec e x id n is on small at place driver iface lawful later given_ok =
    let given = given_tells s.core rec e given_ok in
    let fit = first_fit_tells s.core e.slot is.holds given.fit in
    let number : e.number ≡ suc (length s.core.history) = omega (arith, ap (λ (x : Entry). x.number) given.entry) in
    let may = iface_links s.core rec e id is.holds is.quiet.rest given_ok driver iface lawful in
    linked_shows (record s { core = core.with_reference_kept (all_seated s.core) e.slot id; locals = set s.locals x None })
    (record r { model = with_reference_kept r.model e.slot n; local_labels = put r.local_labels x None }) c e
    (seated_keeps (core.with_reference_kept s.core e.slot id) may.holds) later (keeping_shows s r e.slot x id n is on fit.0 small at place)
    (omega (arith, fit.0, is.holds.shape.slots)) (is_vacant_tells (slot_at s.core.slots e.slot) fit.1) number

-- the label is free once the interface is attached
abbrev pub after_plugging : SessionState → ℕ → ℕ → ℕ → Result Entry Refusal → SessionState
after_plugging s c x id (Ok e) = record s { core = core.with_attached_iface s.core c e id; locals = set s.locals x None }
after_plugging s c x id (Err f) = s

abbrev PlugDone : SessionState → Registry → ℕ → Record → ℕ → ℕ → Result Entry Refusal → Type 0
PlugDone s r c rec x id result =
    Gives (command_answer result) (plug_answer r c rec x) × Leaves (command_answer result) (Shows (after_plugging s c x id result) (after_plug r c x (plug_answer r c rec x)))

-- the label names the driver's number
label_is : (s : SessionState) (r : Registry) (x id n : ℕ) → Shows s r → get_or s.locals x None ≡ Some id → local_at s.core.locals id ≡ Standing n → r.local_labels x ≡ Some n
label_is s r x id n on at place = on.labels.local x ∙ (ap (number_at s.core.locals) at ∙ ap events.number_standing place)

plug_by : (s : SessionState) (r : Registry) (c : ℕ) (rec : Record) (x id n : ℕ) (a result : Result Entry Refusal) → IsSession s → Shows s r → x < 26 → get_or s.locals x None ≡ Some id
    → local_at s.core.locals id ≡ Standing n
    → is_iface rec.kind ≡ true → IsTrue (is_lawful rec.name) → core.attach_iface_answer s.core c rec id ≡ a → IsAnswer a result → Holds (after_attach_iface s.core c id result)
    → PlugDone s r c rec x id result
plug_by s r c rec x id n (Err f) result is on small at place iface lawful answered due later =
    let label = label_is s r x id n on at place in
    let answer : plug_answer r c rec x ≡ Err (Refused f) =
    ap (λ (o : Option ℕ). with_label o (λ d. command_answer (attach_iface_answer r c rec d))) label ∙ ap command_answer (sym (attach_iface_answers s r c rec id n is.holds on place) ∙ answered) in
    subst (PlugDone s r c rec x id) (sym due) (
      gives (command_answer {X = Entry} (Err f)) (plug_answer r c rec x) answer,
      leaves (command_answer {X = Entry} (Err f)) s (after_plug r c x (plug_answer r c rec x))
          (subst (λ (o : Option ℕ). Shows s (on_some r o (λ d. on_ok r (plug_answer r c rec x) (λ e. with_attached_iface r c e x d)))) (sym label)
          (subst (λ (b : Result Entry Hitch). Shows s (on_ok r b (λ e. with_attached_iface r c e x n))) (sym answer) on)),
    )
plug_by s r c rec x id n (Ok e) result is on small at place iface lawful answered due later = either due
    (λ done.
    let label = label_is s r x id n on at place in
    let parts = attach_tells (events.is_inside s.core c) (not (core.is_to_driver s.core id)) (core.given_entry s.core rec) e answered in
    let answer : plug_answer r c rec x ≡ Ok e =
    ap (λ (o : Option ℕ). with_label o (λ d. command_answer (attach_iface_answer r c rec d))) label ∙ ap command_answer (sym (attach_iface_answers s r c rec id n is.holds on place) ∙ answered) in
    let kept : Holds (core.with_attached_iface s.core c e id) = subst (λ (b : Result Entry Refusal). Holds (after_attach_iface s.core c id b)) done later in
    subst (PlugDone s r c rec x id) (sym done) (
      answer,
      subst (λ (o : Option ℕ). Shows (after_plugging s c x id (Ok e)) (on_some r o (λ d. on_ok r (plug_answer r c rec x) (λ f. with_attached_iface r c f x d)))) (sym label)
          (subst (λ (b : Result Entry Hitch). Shows (after_plugging s c x id (Ok e)) (on_ok r b (λ f. with_attached_iface r c f x n))) (sym answer)
          (plugged_shows s r c rec e x id n is on small at place (not-false (core.is_to_driver s.core id) parts.1) iface lawful kept parts.2)),
    ))
    (λ full. subst (PlugDone s r c rec x id) (sym full) (tt, tt))

pub plug_done : (s : SessionState) (r : Registry) (c : ℕ) (rec : Record) (x id n : ℕ) (result : Result Entry Refusal) → IsSession s → Shows s r → x < 26 → get_or s.locals x None ≡ Some id
    → local_at s.core.locals id ≡ Standing n
    → is_iface rec.kind ≡ true → IsTrue (is_lawful rec.name) → IsAnswer (core.attach_iface_answer s.core c rec id) result → Holds (after_attach_iface s.core c id result)
    → PlugDone s r c rec x id result
plug_done s r c rec x id n result is on small at place iface lawful due later =
    plug_by s r c rec x id n (core.attach_iface_answer s.core c rec id) result is on small at place iface lawful refl due later

-- Detach

-- the entry is retired, with a snapshot of each CPU; `before` is who leads to it
abbrev retired_by : State → ℕ → Entry → Option ℕ → State
retired_by s c e before = after_seeing (with_all_snapshots (with_retired (with_link_past (all_seated s) e.slot before) e.slot e) e.slot) c

retired_passive : (s : State) (e : Entry) (c n : ℕ) → Holds s → SlotsShow (after_change s.history (Detach e.number)) (set s.slots e.slot (Retired e)) → slot_at s.slots e.slot ≡ Live e
    → passive_in s.passive s.hands c (slot_of s.slots n) ≡ passive_in s.passive s.hands c (slot_of (set s.slots e.slot (Retired e)) n)
retired_passive s e c n on later at = passive_moved s.history (after_change s.history (Detach e.number)) s.slots (set s.slots e.slot (Retired e)) s.passive s.hands c n on.slots later
    (λ u was. either (cases_eq u e.slot)
    (λ same.
    let one : was.0 ≡ e = live_one was.0 e (slot_at s.slots e.slot) at (subst (λ (k : ℕ). IsIn was.0 (slot_at s.slots k)) same was.1) in
    inl (
      e,
      subst (λ (k : ℕ). IsIn e (slot_at (set s.slots e.slot (Retired e)) k)) (sym same) (in_written s.slots e.slot (Retired e) e (in_within s.slots e.slot e (inl at)) (inr refl)),
      ap (λ (f : Entry). f.number) (sym one) ∙ was.2,
    ))
    (λ off. inl (was.0, in_other s.slots e.slot (Retired e) was.0 u off was.1, was.2)))
    (λ u was. inl (was.0, in_unpublished s.slots e.slot u e was.0 at was.1, was.2))

-- what a live entry has no end for
live_unended : (s : State) (u : ℕ) (f : Entry) (p : ℕ) → Holds s → slot_at s.slots u ≡ Live f → EndsAt s.history f.number p → ⊥
live_unended s u f p on at end =
    let late : length s.history < p = (on.slots.live u f at).0.unended p end in
    omega (arith, (ended_within s.history f.number p end).1)

detached_model : (s : SessionState) (r : Registry) (c : ℕ) (e : Entry) → Holds s.core → Shows s r → slot_at s.core.slots e.slot ≡ Live e
    → SlotsShow (after_change s.core.history (Detach e.number)) (set s.core.slots e.slot (Retired e))
    → ShowsModel (after_change s.core.history (Detach e.number)) s.core.begins s.core.found s.core.passive s.core.hands (set s.core.slots e.slot (Retired e)) s.core.locals s.core.keeps (with_detached r c e).model
detached_model s r c e holds on at later = record {
  history = ap (λ (h : List Change). after_change h (Detach e.number)) on.model.history;
  sections = on.model.sections;
  last_found = on.model.last_found;
  held = λ j n. on.model.held j n ∙ retired_passive s.core e j n holds later at;
  counted = on.model.counted;
  occupants = λ t. on.model.occupants t ∙ unwritten number_in Vacant s.core.slots e.slot (Retired e) (ap number_in at) t;
  kept = on.model.kept;
}

detached_follows : (s : SessionState) (r : Registry) (e : Entry) (blank row : List Mark) → Holds s.core → Shows s r → slot_at s.core.slots e.slot ≡ Live e
    → SnapshotsFollow (after_change s.core.history (Detach e.number)) (set s.core.slots e.slot (Retired e)) (set (set s.core.marks e.slot blank) e.slot row) s.core.section s.core.begins
detached_follows s r e blank row holds on at =
    subst (λ (m : List (List Mark)). SnapshotsFollow (after_change s.core.history (Detach e.number)) (set s.core.slots e.slot (Retired e)) m s.core.section s.core.begins)
    (sym (set-set s.core.marks e.slot blank row))
    (detach_follows s.core.history s.core.slots s.core.marks s.core.section s.core.begins e.slot e row (in_within s.core.slots e.slot e (inl at)) at
    (λ c b begun. omega (arith, holds.sections.begun c b begun, holds.sections.prefix c))
    (λ u f live p end. live_unended s.core u f p holds live end) on.grace)

detached_by : (s : SessionState) (r : Registry) (c : ℕ) (e : Entry) (before : Option ℕ) → Holds s.core → Holds (retired_by s.core c e before) → Shows s r → slot_at s.core.slots e.slot ≡ Live e
    → Shows (with_core s (retired_by s.core c e before)) (with_detached r c e)
detached_by s r c e None holds later on at = assumption (
  detached_model s r c e holds on at later.slots,
  detach_counts s.core.history s.core.slots e.slot e (in_within s.core.slots e.slot e (inl at)) at on.live,
  detached_follows s r e (replicate MOST_CPUS no_mark) (snapshot_row s.core) holds on at,
  retired_tallies s.core.settings.cpus s.core.history s.core.slots s.core.counts s.core.nets s.core.totals r.acquired r.released r.given_up r.is_collected e.slot e at on.tallies,
)
detached_by s r c e (Some p) holds later on at = assumption (
  detached_model s r c e holds on at later.slots,
  detach_counts s.core.history s.core.slots e.slot e (in_within s.core.slots e.slot e (inl at)) at on.live,
  detached_follows s r e (replicate MOST_CPUS no_mark) (snapshot_row s.core) holds on at,
  retired_tallies s.core.settings.cpus s.core.history s.core.slots s.core.counts s.core.nets s.core.totals r.acquired r.released r.given_up r.is_collected e.slot e at on.tallies,
)

abbrev DetachDone : SessionState → Registry → ℕ → Key → Result Entry Refusal → Type 0
DetachDone s r c key result = Gives (command_answer result) (command_answer (detach_answer r c key))
    × Leaves (command_answer result) (Shows (with_core s (after_detach s.core c result)) (on_ok r (detach_answer r c key) (with_detached r c)))

-- the answer, where the CPU is outside
detach_found : (s : SessionState) (r : Registry) (c : ℕ) (key : Key) (found : Option Entry) → Holds s.core → Shows s r → events.is_inside s.core c ≡ false → IsLookupNow s.core key found
    → detach_answer r c key ≡ found_answer found
detach_found s r c key found holds on out is =
    ap (λ (b : Bool). if b then Err Inside else found_answer (lookup_now r key)) (inside_is s r c on ∙ out) ∙ ap found_answer (now_is s r key holds on found is)

detach_refused : (s : SessionState) (r : Registry) (c : ℕ) (key : Key) (f : Refusal) → Holds s.core → Shows s r → detach_answer r c key ≡ Err f → DetachDone s r c key (Err f)
detach_refused s r c key f holds on answer = (
  gives (command_answer {X = Entry} (Err f)) (command_answer (detach_answer r c key)) (ap command_answer answer),
  leaves (command_answer {X = Entry} (Err f)) s (on_ok r (detach_answer r c key) (with_detached r c)) (subst (λ (b : Result Entry Refusal). Shows s (on_ok r b (with_detached r c))) (sym answer) on),
)

detach_err : (s : SessionState) (r : Registry) (c : ℕ) (key : Key) (f : Refusal) → Holds s.core → Shows s r → IsDetachRefusal s.core c key f → DetachDone s r c key (Err f)
detach_err s r c key Inside holds on is = detach_refused s r c key Inside holds on (ap (λ (b : Bool). if b then Err Inside else found_answer (lookup_now r key)) (inside_is s r c on ∙ is))
detach_err s r c key NotFound holds on is = detach_refused s r c key NotFound holds on (detach_found s r c key None holds on is.0 is.1)
detach_err s r c key NoMemory holds on is = (tt, tt)
detach_err s r c key _ holds on is = absurd is

pub detach_done : (s : SessionState) (r : Registry) (c : ℕ) (key : Key) (result : Result Entry Refusal) → Holds s.core → Shows s r → IsDetachAnswer s.core c key result
    → Holds (after_detach s.core c result) → ((e : Entry) → result ≡ Ok e → slot_at s.core.slots e.slot ≡ Live e) → DetachDone s r c key result
detach_done s r c key (Err f) holds on is later live = detach_err s r c key f holds on is
detach_done s r c key (Ok e) holds on is later live =
    let answer : detach_answer r c key ≡ Ok e = detach_found s r c key (Some e) holds on is.0 is.1 in (
      ap command_answer answer,
      subst (λ (b : Result Entry Refusal). Shows (with_core s (after_detach s.core c (Ok e))) (on_ok r b (with_detached r c))) (sym answer)
          (detached_by s r c e (slot_before s.core.slots s.core.next e.slot) holds later on (live e refl)),
    )
