-- Attach, plug and detach: the registry that the session shows answers and changes as the core does.
use Rattle.std.proofs.Common.{◌≡◌, ℕ, suc, ◌+◌, ◌<◌, ◌≤◌, List, ◌∷◌, [], length, get_or, set, replicate, drop, Option, Some, None, Bool, true, false, cond, sym, ap, subst, ◌∙◌, arith, ◌-◌, inl, inr, get_or-set_same, get_or-set_other, is_some, is_none, ◌&&◌, ◌||◌, refl, sum_by}
use Rattle.std.specs.Prelude.{not}
use Rattle.std.proofs.lemmas.List.{get_or-replicate, get_or_append_left, length-replicate}
use Rattle.std.proofs.lemmas.List.Sums.{sum_by-append}
use Rattle.std.proofs.lemmas.Option.{none-some}
use Rattle.std.specs.List.{list_any, zip}
use Rattle.std.proofs.lemmas.Slice.Zip.{length-zip, get_or-zip}
use Rattle.registry_report.specs.Types.{Entry, Change, Attach, Detach, Mark, Slot, Vacant, Live, Retired, MOST_CPUS, Record, Key, LocalPlace, Free, Standing, Settings}
use Rattle.registry_values.specs.Common.{bias, no_mark, slot_at, least_below, key_of_record, is_vacant, is_iface, is_live_as, is_taken, live_count, slot_of}
use Rattle.registry_values.specs.Answers as answers
use Rattle.registry_values.specs.Slots as values
use Rattle.registry_values.proofs.Slots.{live_tells, least_agrees}
use Rattle.registry_values.proofs.Fit.{ranges}
use Rattle.protocol.specs.Common.{with_biases, count_at, total_at, EndsAt, after_change, IsIn, Holds, Occupies, SlotsShow, standing_of, put, number_in, passive_in, State, local_at, kept_at, passive_at, trying_at}
use Rattle.protocol.specs.Events as events
use Rattle.protocol.proofs.Cells.{cell_in_new, cell_in_old}
use Rattle.protocol.proofs.History.{end_cases, length-after_change}
use Rattle.protocol.proofs.keeps.ListKeeps.{live_count_put, taken_from}
use Rattle.protocol.proofs.Occupied.{in_published, in_unpublished, not_vacant, slot_cases, attached_in, slot_found, slot_has, in_other}
use Rattle.protocol.proofs.Either.{either}
use Rattle.protocol.proofs.model.RefiningSections.{put_is}
use Rattle.protocol.proofs.counts.Sums.{local_changed, one_other, one_self, standing_within}
use Rattle.protocol.proofs.model.RefiningEntries.{passive_moved}
use Rattle.passive_core.specs.Common.{with_linked, all_seated, IsLookupNow}
use Rattle.passive_core.specs.Attaching as core
use Rattle.registry_report.specs.Common.{is_attach, is_detach, CountsLive, IsFresh, ShowsTallies, SnapshotsFollow, lookup, live_entries, is_driver_entry, is_driver_number, attach_iface_answer, is_available, lookup_now, first_fit, room_of, given_entry, attach_answer, Registry, SessionState, with_core, IsSession, Shows, number_at, with_attached, with_reference_kept}
use Rattle.registry_report.proofs.Lookups.{position_is, entry_is, lookup_is, one_lookup}
use Rattle.registry_report.proofs.shows.Sectioned.{inside_is, put_shows}

-- What an attach and a detach do to what a session shows: slots, tallies, snapshots and who is live.

-- a slot has the new entry, or what it had
pub by_published : (P : ℕ → Entry → Type 0) (slots : List Slot) (e : Entry) (t : ℕ) (f : Entry) → e.slot < length slots → slot_at slots e.slot ≡ Vacant → IsIn f (slot_at (set slots e.slot (Live e)) t)
    → P e.slot e → ((t ≡ e.slot → ⊥) → IsIn f (slot_at slots t) → P t f) → P t f
by_published P slots e t f lt vacant is new old = either (in_published slots e.slot t e f lt is)
    (λ here. subst (λ (u : ℕ). P u f) (sym here.0) (subst (P e.slot) (sym here.1) new))
    (λ there. old (λ same. not_vacant f (slot_at slots t) (ap (slot_at slots) same ∙ vacant) there) there)

-- a retired entry stood there before an attach
retired_before : (slots : List Slot) (e : Entry) (t : ℕ) (f : Entry) → e.slot < length slots → slot_at slots e.slot ≡ Vacant → slot_at (set slots e.slot (Live e)) t ≡ Retired f
    → slot_at slots t ≡ Retired f
retired_before slots e t f lt vacant is = either (slot_cases slots e.slot (Live e) t lt)
    (λ here. absurd (let q : Live e ≡ Retired f = sym here.1 ∙ is in cc))
    (λ there. sym there.1 ∙ is)

-- the first count words count no reference
pub biases_at : (cpus c : ℕ) (row : List ℕ) → c < cpus → get_or (with_biases cpus row) c 0 ≡ bias
biases_at cpus c row lt = get_or_append_left (replicate cpus bias) (drop cpus row) 0 c (omega (arith, length-replicate cpus bias)) ∙ get_or-replicate cpus c bias 0 lt

-- the net counts of a new entry are those of none
pub published_tallies : (cpus : ℕ) (h : List Change) (slots : List Slot) (counts nets : List (List ℕ)) (totals : List ℕ) (acquired released : ℕ → ℕ → ℕ) (given_up : ℕ → ℕ) (is_collected : ℕ → Bool)
    (e : Entry)
    → cpus ≤ MOST_CPUS → e.slot < length slots → length counts ≡ length slots → length nets ≡ length slots → slot_at slots e.slot ≡ Vacant → e.number ≡ suc (length h) → total_at totals e.slot ≡ bias
    → ShowsTallies cpus h slots counts nets totals acquired released given_up is_collected
    → ShowsTallies cpus (after_change h (Attach e)) (set slots e.slot (Live e)) (set counts e.slot (with_biases cpus (get_or counts e.slot [])))
    (set nets e.slot (replicate MOST_CPUS bias)) totals acquired released given_up is_collected
published_tallies cpus h slots counts nets totals acquired released given_up is_collected e few lt counts_size nets_size vacant number unused on =
    let row = with_biases cpus (get_or counts e.slot []) in
    let fresh : IsFresh acquired released given_up is_collected e.number = on.fresh e.number (omega arith) in
    let counted : (c : ℕ) → c < cpus → count_at (set counts e.slot row) c e.slot ≡ bias = λ c low. cell_in_new 0 counts e.slot row c (omega arith) ∙ biases_at cpus c (get_or counts e.slot []) low in
    let net : (c : ℕ) → c < cpus → count_at (set nets e.slot (replicate MOST_CPUS bias)) c e.slot ≡ bias =
    λ c low. cell_in_new 0 nets e.slot (replicate MOST_CPUS bias) c (omega arith) ∙ get_or-replicate MOST_CPUS c bias 0 (omega arith) in
    record {
      net = λ t c f is low. by_published (λ u g. count_at (set nets e.slot (replicate MOST_CPUS bias)) c u + released c g.number ≡ bias + acquired c g.number) slots e t f lt vacant is
          (omega (arith, net c low, fresh.unreleased c, fresh.unacquired c))
          (λ off was. ap (λ (w : ℕ). w + released c f.number) (cell_in_old 0 nets e.slot (replicate MOST_CPUS bias) t c off) ∙ on.net t c f was low);
      word = λ t c f is low. by_published (λ u g. is_collected g.number ≡ false → count_at (set counts e.slot row) c u ≡ count_at (set nets e.slot (replicate MOST_CPUS bias)) c u) slots e t f lt
          vacant is
          (λ uncollected. counted c low ∙ sym (net c low))
          (λ off was uncollected. cell_in_old 0 counts e.slot row t c off ∙ (on.word t c f was low uncollected ∙ sym (cell_in_old 0 nets e.slot (replicate MOST_CPUS bias) t c off)));
      total = λ t f is. by_published (λ u g. is_collected g.number ≡ false → total_at totals u + given_up g.number ≡ bias) slots e t f lt vacant is
          (λ uncollected. omega (arith, unused, fresh.kept))
          (λ off was uncollected. on.total t f was uncollected);
      collected = λ t c f is. by_published (λ u g. is_collected g.number ≡ true → count_at (set counts e.slot row) c u ≡ 0) slots e t f lt vacant is
          (λ is. absurd (let q : ◌≡◌ {A = Bool} false true = sym fresh.uncollected ∙ is in cc))
          (λ off was is. cell_in_old 0 counts e.slot row t c off ∙ on.collected t c f was is);
      fresh = λ n later. on.fresh n (omega (arith, length-after_change h (Attach e)));
    }

-- what was there is what is there, once an entry is retired
pub retired_tallies : (cpus : ℕ) (h : List Change) (slots : List Slot) (counts nets : List (List ℕ)) (totals : List ℕ) (acquired released : ℕ → ℕ → ℕ) (given_up : ℕ → ℕ) (is_collected : ℕ → Bool)
    (t : ℕ) (e : Entry) → slot_at slots t ≡ Live e
    → ShowsTallies cpus h slots counts nets totals acquired released given_up is_collected
    → ShowsTallies cpus (after_change h (Detach e.number)) (set slots t (Retired e)) counts nets totals acquired released given_up is_collected
retired_tallies cpus h slots counts nets totals acquired released given_up is_collected t e at on = record {
  net = λ u c f is. on.net u c f (in_unpublished slots t u e f at is);
  word = λ u c f is. on.word u c f (in_unpublished slots t u e f at is);
  total = λ u f is. on.total u f (in_unpublished slots t u e f at is);
  collected = λ u c f is. on.collected u c f (in_unpublished slots t u e f at is);
  fresh = λ n later. on.fresh n (omega (arith, length-after_change h (Detach e.number)));
}

-- one attach more, and one live slot
pub attach_counts : (h : List Change) (slots : List Slot) (e : Entry) → e.slot < length slots → slot_at slots e.slot ≡ Vacant → CountsLive h slots
    → CountsLive (after_change h (Attach e)) (set slots e.slot (Live e))
attach_counts h slots e lt vacant on =
    let more = live_count_put slots e.slot Vacant (Live e) lt vacant in
    let attaches = sum_by-append (λ (c : Change). cond (is_attach c) 1 0) h (Attach e ∷ []) in
    let detaches = sum_by-append (λ (c : Change). cond (is_detach c) 1 0) h (Attach e ∷ []) in
    omega (arith, more, attaches, detaches, on)

-- one detach more, and one live slot less
pub detach_counts : (h : List Change) (slots : List Slot) (t : ℕ) (e : Entry) → t < length slots → slot_at slots t ≡ Live e → CountsLive h slots
    → CountsLive (after_change h (Detach e.number)) (set slots t (Retired e))
detach_counts h slots t e lt at on =
    let less = live_count_put slots t (Live e) (Retired e) lt at in
    let attaches = sum_by-append (λ (c : Change). cond (is_attach c) 1 0) h (Detach e.number ∷ []) in
    let detaches = sum_by-append (λ (c : Change). cond (is_detach c) 1 0) h (Detach e.number ∷ []) in
    omega (arith, less, attaches, detaches, on)

-- an attach ends nobody
ends_as_before : (h : List Change) (e : Entry) (n p : ℕ) → EndsAt (after_change h (Attach e)) n p → EndsAt h n p
ends_as_before h e n p x = either (end_cases h (Attach e) n p x) (λ old. old.was) (λ new. absurd (none-some n new.is))

pub attach_follows : (h : List Change) (slots : List Slot) (marks : List (List Mark)) (section : List ℕ) (begins : List (Option ℕ)) (e : Entry) → e.slot < length slots → slot_at slots e.slot ≡ Vacant
    → SnapshotsFollow h slots marks section begins → SnapshotsFollow (after_change h (Attach e)) (set slots e.slot (Live e)) marks section begins
attach_follows h slots marks section begins e lt vacant on t p c b w f at end begun snapshot same =
    on t p c b w f (retired_before slots e t f lt vacant at) (ends_as_before h e f.number p end) begun snapshot same

-- the new end comes after each open section's begin
pub detach_follows : (h : List Change) (slots : List Slot) (marks : List (List Mark)) (section : List ℕ) (begins : List (Option ℕ)) (t : ℕ) (e : Entry) (row : List Mark) → t < length slots
    → slot_at slots t ≡ Live e
    → ((c b : ℕ) → get_or begins c None ≡ Some b → b ≤ length h)
    → ((u : ℕ) (f : Entry) → slot_at slots u ≡ Live f → (p : ℕ) → EndsAt h f.number p → ⊥)
    → SnapshotsFollow h slots marks section begins → SnapshotsFollow (after_change h (Detach e.number)) (set slots t (Retired e)) (set marks t row) section begins
detach_follows h slots marks section begins t e row lt live early unended on u p c b w f at end begun snapshot same = either (end_cases h (Detach e.number) f.number p end)
    (λ old. either (slot_cases slots t (Retired e) u lt)
    (λ here.
    let one : f ≡ e = (let q : Retired f ≡ Retired e = sym at ∙ here.1 in cc) in
    absurd (unended t e live p (subst (λ (g : Entry). EndsAt h g.number p) one old.was)))
    (λ there.
    on u p c b w f (sym there.1 ∙ at) old.was begun (sym (ap (λ (m : Mark). m.snapshot) (cell_in_old no_mark marks t row u c there.0)) ∙ snapshot) same))
    (λ new. omega (arith, new.new, early c b begun))

-- Attach, plug and detach: the registry that the session shows answers and changes as the core does.

-- Answers

-- the lookup now is that of the core's history
pub now_is : (s : SessionState) (r : Registry) (key : Key) → Holds s.core → Shows s r → (answer : Option Entry) → IsLookupNow s.core key answer → lookup_now r key ≡ answer
now_is s r key holds on answer is =
    ap (λ (h : List Change). lookup h key (length h)) on.model.history
    ∙ one_lookup s.core.history holds.legal (length s.core.history) key (lookup s.core.history key (length s.core.history)) answer (lookup_is s.core.history holds.legal key (length s.core.history)) is

abbrev PlaceOf : {X : Type 0} → (X → Bool) → X → List X → Type 0
PlaceOf p d xs = (i : ℕ) × (i < length xs) × (p (get_or xs i d) ≡ true)

place_by : {X : Type 0} (p : X → Bool) (d x : X) (xs : List X) (b : Bool) → p x ≡ b → (list_any p xs ≡ true → PlaceOf p d xs) → (b || list_any p xs) ≡ true → PlaceOf p d (x ∷ xs)
place_by p d x xs true at rest any = (0, omega arith, at)
place_by p d x xs false at rest any = let later = rest any in (suc later.0, omega (arith, later.1), later.2)

any_place : {X : Type 0} (p : X → Bool) (d : X) (xs : List X) → list_any p xs ≡ true → PlaceOf p d xs
any_place p d [] is = absurd (let q : ◌≡◌ {A = Bool} false true = is in cc)
any_place p d (x ∷ xs) is = place_by p d x xs (p x) refl (any_place p d xs) is

taken_when : (s : State) (key : Key) (b : Bool) → Holds s → is_taken key s.slots ≡ b → IsLookupNow s key None → false ≡ b
taken_when s key false holds is none = refl
taken_when s key true holds is none =
    let at = any_place (is_live_as key) Vacant s.slots is in
    let live = live_tells key (slot_at s.slots at.0) at.2 in
    absurd (none live.0 (holds.slots.live at.0 live.0 live.1).0 live.2)

taken_by : (s : State) (key : Key) (a : Option Entry) → Holds s → IsLookupNow s key a → is_taken key s.slots ≡ is_some a
taken_by s key None holds is = sym (taken_when s key (is_taken key s.slots) holds refl is)
taken_by s key (Some e) holds is = taken_from key s.slots e.slot e (holds.slots.placed e is.0) is.1

-- whether the kind and the name are taken
pub taken_is : (s : SessionState) (r : Registry) (key : Key) → Holds s.core → Shows s r → is_taken key s.core.slots ≡ is_some (lookup_now r key)
taken_is s r key holds on =
    taken_by s.core key (lookup s.core.history key (length s.core.history)) holds (lookup_is s.core.history holds.legal key (length s.core.history))
    ∙ ap (λ (h : List Change). is_some (lookup h key (length h))) (sym on.model.history)

vacant_is : (x : Slot) → is_vacant x ≡ is_none (number_in x)
vacant_is Vacant = refl
vacant_is _ = refl

available_at : (s : SessionState) (r : Registry) (t : ℕ) → Shows s r → values.is_available (slot_at s.core.slots t, kept_at s.core.keeps t) ≡ is_available r t
available_at s r t on = λ i. (vacant_is (slot_at s.core.slots t) ∙ ap is_none (sym (on.model.occupants t))) i && is_none (sym (on.model.kept t) i)

pub first_fit_is : (s : SessionState) (r : Registry) → Holds s.core → Shows s r → core.first_fit s.core ≡ first_fit r
first_fit_is s r holds on =
    let size : length s.core.keeps ≡ length s.core.slots = omega (arith, holds.shape.keeps, holds.shape.slots) in
    let all : length (zip s.core.slots s.core.keeps) ≡ r.settings.slots = omega (arith, length-zip s.core.slots s.core.keeps, holds.shape.slots, ap (λ (z : Settings). z.slots) on.settings) in
    position_is values.is_available (zip s.core.slots s.core.keeps) (Vacant, None)
    ∙ (least_agrees (λ t. values.is_available (get_or (zip s.core.slots s.core.keeps) t (Vacant, None))) (is_available r) (length (zip s.core.slots s.core.keeps))
    (λ t lt. ap values.is_available (get_or-zip s.core.slots s.core.keeps t (Vacant, None) (omega (arith, length-zip s.core.slots s.core.keeps)) (omega (arith, length-zip s.core.slots s.core.keeps)))
    ∙ available_at s r t on)
    ∙ ap (least_below (is_available r)) all)

pub room_is : (s : SessionState) (r : Registry) → Shows s r → events.room_of s.core ≡ room_of r
room_is s r on =
    let live : live_count s.core.slots ≡ live_entries s.core.history = omega (arith, on.live) in
    ap (λ (k : ℕ). record { changes = length s.core.history; live = k; limit = s.core.settings.change_limit }) live
    ∙ sym (λ i. record { changes = length (on.model.history i); live = live_entries (on.model.history i); limit = (on.settings i).change_limit })

pub given_is : (s : SessionState) (r : Registry) (rec : Record) → Holds s.core → Shows s r → core.given_entry s.core rec ≡ given_entry r rec
given_is s r rec holds on =
    λ i. answers.given_entry (taken_is s r (key_of_record rec) holds on i) (first_fit_is s r holds on i) (room_is s r on i) rec

pub attach_answers : (s : SessionState) (r : Registry) (c : ℕ) (rec : Record) → Holds s.core → Shows s r → core.attach_answer s.core c rec ≡ attach_answer r c rec
attach_answers s r c rec holds on = λ i. answers.attach_answer (sym (inside_is s r c on) i) (is_iface rec.kind) (given_is s r rec holds on i)

-- What an attach leaves

-- passive references to who stands somewhere stay
published_passive : (s : State) (e : Entry) (c n : ℕ) → Holds s → SlotsShow (after_change s.history (Attach e)) (set s.slots e.slot (Live e)) → e.slot < length s.slots
    → slot_at s.slots e.slot ≡ Vacant
    → passive_in s.passive s.hands c (slot_of s.slots n) ≡ passive_in s.passive s.hands c (slot_of (set s.slots e.slot (Live e)) n)
published_passive s e c n on later lt vacant =
    let unheld : passive_at s.passive c e.slot - trying_at s.hands c e.slot ≡ 0 = omega (arith, on.passive.vacant c e.slot vacant) in
    passive_moved s.history (after_change s.history (Attach e)) s.slots (set s.slots e.slot (Live e)) s.passive s.hands c n on.slots later
    (λ u at. inl (at.0, in_other s.slots e.slot (Live e) at.0 u (λ same. not_vacant at.0 (slot_at s.slots u) (ap (slot_at s.slots) same ∙ vacant) at.1) at.1, at.2))
    (λ u at. either (in_published s.slots e.slot u e at.0 lt at.1)
    (λ new. inr (ap (λ (w : ℕ). passive_at s.passive c w - trying_at s.hands c w) new.0 ∙ unheld))
    (λ old. inl (at.0, old, at.2)))

-- an entry is linked in a vacant slot, under the next number
pub linked_shows : (s : SessionState) (r : Registry) (c : ℕ) (e : Entry) → Holds s.core → Holds (with_linked s.core c e) → Shows s r → e.slot < length s.core.slots
    → slot_at s.core.slots e.slot ≡ Vacant → e.number ≡ suc (length s.core.history)
    → Shows (with_core s (with_linked s.core c e)) (with_attached r c e)
linked_shows s r c e holds later on lt vacant number = record {
  settings = on.settings;
  model = record {
    history = ap (λ (h : List Change). after_change h (Attach e)) on.model.history;
    sections = on.model.sections;
    last_found = on.model.last_found;
    held = λ j n. on.model.held j n ∙ published_passive s.core e j n holds later.slots lt vacant;
    counted = on.model.counted;
    occupants = put_is r.model.occupants (λ t. number_in (slot_at (set s.core.slots e.slot (Live e)) t)) e.slot (Some e.number)
        (sym (ap number_in (get_or-set_same s.core.slots e.slot (Live e) Vacant lt)))
        (λ t off. on.model.occupants t ∙ sym (ap number_in (get_or-set_other s.core.slots e.slot t (Live e) Vacant off)));
    kept = on.model.kept;
  };
  sections = on.sections;
  live = attach_counts s.core.history s.core.slots e lt vacant on.live;
  grace = attach_follows s.core.history s.core.slots s.core.marks s.core.section s.core.begins e lt vacant on.grace;
  tallies = published_tallies s.core.settings.cpus s.core.history s.core.slots s.core.counts s.core.nets s.core.totals r.acquired r.released r.given_up r.is_collected e
      (ranges s.core.settings holds.fit).cpus lt (omega (arith, holds.shape.slots, holds.shape.counts)) (omega (arith, holds.shape.slots, holds.shape.nets)) vacant number
      (holds.balance.vacant e.slot lt vacant) on.tallies;
  labels = on.labels;
}

-- Plug

-- what a label's reference is to is a driver
driver_in : (h : List Change) (slots : List Slot) (t : ℕ) (e : Entry) → SlotsShow h slots → IsIn e (slot_at slots t) → events.is_driver_slot (slot_at slots t) ≡ is_driver_number h e.number
driver_in h slots t e on is = either is
    (λ live. ap events.is_driver_slot live ∙ sym (ap is_driver_entry (entry_is h e (attached_in h slots t e on is).0)))
    (λ gone. ap events.is_driver_slot gone ∙ sym (ap is_driver_entry (entry_is h e (attached_in h slots t e on is).0)))

driver_at : (s : State) (n : ℕ) → Holds s → Occupies s.slots n → core.is_driver_in s.slots (slot_of s.slots n) ≡ is_driver_number s.history n
driver_at s n holds is =
    let t = slot_found s.slots n is in
    let has = slot_has s.slots n t.0 t.1 in
    ap (core.is_driver_in s.slots) t.1 ∙ (driver_in s.history s.slots t.0 has.1.0 holds.slots has.1.1 ∙ ap (is_driver_number s.history) has.1.2)

pub driver_is : (s : SessionState) (r : Registry) (id n : ℕ) → Holds s.core → Shows s r → local_at s.core.locals id ≡ Standing n → core.is_to_driver s.core id ≡ is_driver_number r.model.history n
driver_is s r id n holds on at =
    ap (λ (p : LocalPlace). core.is_driver_number s.core.slots (events.number_standing p)) at
    ∙ (driver_at s.core n holds (holds.references.standing id n at) ∙ ap (λ (h : List Change). is_driver_number h n) (sym on.model.history))

pub attach_iface_answers : (s : SessionState) (r : Registry) (c : ℕ) (rec : Record) (id n : ℕ) → Holds s.core → Shows s r → local_at s.core.locals id ≡ Standing n
    → core.attach_iface_answer s.core c rec id ≡ attach_iface_answer r c rec n
attach_iface_answers s r c rec id n holds on at = λ i. answers.attach_answer (sym (inside_is s r c on) i) (not (driver_is s r id n holds on at i)) (given_is s r rec holds on i)

-- a label's reference is gone with its place, and the others stand
label_gone : (s : SessionState) (r : Registry) (x id : ℕ) → IsSession s → Shows s r → x < 26 → get_or s.locals x None ≡ Some id
    → (y : ℕ) → put r.local_labels x None y ≡ number_at (set s.core.locals id Free) (get_or (set s.locals x None) y None)
label_gone s r x id is on small at = put_is r.local_labels (λ y. number_at (set s.core.locals id Free) (get_or (set s.locals x None) y None)) x None
    (sym (ap (number_at (set s.core.locals id Free)) (get_or-set_same s.locals x None None (omega (arith, is.local_labels)))))
    (λ y off. on.labels.local y
    ∙ (others y off (get_or s.locals y None) refl ∙ sym (ap (number_at (set s.core.locals id Free)) (get_or-set_other s.locals x y None None off))))
  where
    others : (y : ℕ) → (y ≡ x → ⊥) → (o : Option ℕ) → get_or s.locals y None ≡ o → number_at s.core.locals o ≡ number_at (set s.core.locals id Free) o
    others y off None there = refl
    others y off (Some j) there = ap events.number_standing (sym (get_or-set_other s.core.locals id j Free Free (λ (same : j ≡ id). off (is.apart y x id (there ∙ ap (λ (k : ℕ). Some k) same) at))))

-- the slot took the reference over
pub keeping_shows : (s : SessionState) (r : Registry) (t x id n : ℕ) → IsSession s → Shows s r → t < s.core.settings.slots → x < 26 → get_or s.locals x None ≡ Some id
    → local_at s.core.locals id ≡ Standing n
    → Shows (record s { core = core.with_reference_kept (all_seated s.core) t id; locals = set s.locals x None })
    (record r { model = with_reference_kept r.model t n; local_labels = put r.local_labels x None })
keeping_shows s r t x id n is on low small at place = assumption (
  put_is r.model.locals (λ m. sum_by (standing_of m) (set s.core.locals id Free)) n (r.model.locals n - 1)
      (omega (arith, on.model.counted n, local_changed n s.core.locals id (Standing n) Free (standing_within s.core.locals id n place) place, one_self n n refl))
      (λ m off. omega (arith, on.model.counted m, local_changed m s.core.locals id (Standing n) Free (standing_within s.core.locals id n place) place, one_other n m (λ same. off (sym same)))),
  put_shows r.model.keeps None s.core.keeps t (Some n) (events.number_standing (local_at s.core.locals id)) (omega (arith, is.holds.shape.keeps)) on.model.kept (sym (ap events.number_standing place)),
  label_gone s r x id is on small at,
)
