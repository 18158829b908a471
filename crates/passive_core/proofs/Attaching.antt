-- Attaches and detaches: the slot that is taken, why the entry may be linked, which live entry has a key, and the snapshots.
use Rattle.std.proofs.Common.{◌≡◌, ℕ, zero, suc, ◌+◌, ◌-◌, ◌<◌, List, [], ◌∷◌, ◌++◌, length, get_or, set, take, drop, replicate, get_or-set_same, Option, Some, None, Bool, true, false, not, ◌&&◌, ◌==◌, is_none, nat_lt, IsTrue, refl, sym, add-one, ap, subst, ◌∙◌, arith, lt-ltb, eq-eqb, inl, inr, map}
use Rattle.std.specs.Prelude.{Result, Ok, Err, if◌then◌else◌, position, IfSome}
use Rattle.std.specs.List.{list_all, zip}
use Rattle.std.proofs.Math.Seq.{drop-cons}
use Rattle.std.proofs.lemmas.Bool.{and_from, and_parts, cases_lt, le-ltb}
use Rattle.std.proofs.lemmas.List.{length-replicate, replicate_more, set-get_or, set-set, set_at, set_past, take-replicate, take-append-le, append_assoc, length-map, length-take-le, map_more, take_all}
use Rattle.std.proofs.lemmas.List.Quantifiers.{position-Some}
use Rattle.std.proofs.lemmas.Slice.Zip.{get_or-zip, length-zip}
use Rattle.passive_core.specs.Types.{Entry, Kind, Iface, Driver, Record, StoreSlot, Publish, Reply, Done, Refusal, LocalPlace, Free, Standing, RecordWords, Slot, Vacant, MOST_CPUS, Word, Due, Rest, Snapshots, Key, Mark, Live, Inside, NotFound}
use Rattle.registry_values.specs.Common.{attach_answer, next_entry, is_available, key_of_record, key_of, is_iface, is_taken, is_vacant, slot_of, slot_at, is_lawful, bias, detach_answer, is_live_as, slot_before, same_key, no_mark}
use Rattle.registry_values.specs.Names.{are_key_words, are_name_words}
use Rattle.registry_values.proofs.Answers as answers
use Rattle.registry_values.proofs.Fit.{ranges}
use Rattle.registry_values.proofs.Names.{names_are_keys}
use Rattle.registry_values.proofs.Slots.{key_same, live_tells}
use Rattle.registry_values.proofs.Answers.{same_Err}
use Rattle.protocol.specs.Common.{with_biases, at_rest, State, kept_at, local_at, no_words, row_at, total_at, Outcome, Holds, SeatsShow, DueHolds, section_at}
use Rattle.protocol.specs.Events
use Rattle.protocol.proofs.keeps.CountKeeps.{keep_keeps}
use Rattle.protocol.proofs.keeps.ListKeeps.{may_write_tells}
use Rattle.protocol.proofs.keeps.SectionKeeps.{none_from}
use Rattle.protocol.proofs.Either.{either}
use Rattle.protocol.proofs.Cells.{position_fails}
use Rattle.protocol.proofs.Occupied.{in_within, live_one}
use Rattle.passive_core.specs.Common.{Before, IsAnswer, with_reference_given_back, given_entry, is_driver_in, is_driver_number, is_to_driver, with_reference_kept, first_fit, with_prepared, with_attach_undone, words_before, all_seated, may_act, IsDetachRefusal, IsLookupNow, with_detached, with_all_snapshots}
use Rattle.passive_core.proofs.Entering.{acting_on, made_is}

-- Attaches: the words that are stored, the slot that is taken, and why the entry may be linked.

-- The record words.

-- a second word is stored in a row that was stored, in a slot or past them
row_again : (rows : List RecordWords) (t : ℕ) (r : RecordWords) (k v : ℕ) → set (set rows t r) t (Events.with_word (row_at (set rows t r) t) k v) ≡ set rows t (Events.with_word r k v)
row_again rows t r k v = either (cases_lt t (length rows))
    (λ lt. set-set rows t r (Events.with_word (row_at (set rows t r) t) k v) ∙ ap (λ (x : RecordWords). set rows t (Events.with_word x k v)) (get_or-set_same rows t r no_words lt))
    (λ ge. set-set rows t r (Events.with_word (row_at (set rows t r) t) k v) ∙ (set_past rows t (Events.with_word (row_at (set rows t r) t) k v) ge ∙ sym (set_past rows t (Events.with_word r k v) ge)))

abbrev pub with_row : State → ℕ → RecordWords → State
with_row s t r = record s { rows = set s.rows t r }

pub row_first : (s : State) (t : ℕ) → s ≡ with_row s t (row_at s.rows t)
row_first s t = ap (λ (rows : List RecordWords). record s { rows = rows }) (sym (set-get_or s.rows t no_words))

pub row_next : (s now next : State) (t k v : ℕ) (r : RecordWords) → now ≡ with_row s t r → next ≡ Events.after_row_store now t k v → next ≡ with_row s t (Events.with_word r k v)
row_next s now next t k v r at is =
    is ∙ (ap (λ (x : State). Events.after_row_store x t k v) at ∙ ap (λ (rows : List RecordWords). record s { rows = rows }) (row_again s.rows t r k v))

-- The count words.

pub count_store_allowed : (s : State) (t c v : ℕ) → Events.may_write s t ≡ true → c < s.settings.cpus → Events.narrow_step s (StoreSlot t (5 + c) v) ≡ Some (record { state = Events.after_count_store s t c v; reply = Done })
count_store_allowed s t c v write lt =
    let many : nat_lt (5 + c) 5 ≡ false = le-ltb (5 + c) 5 (omega arith) in
    let same : 5 + c - 5 ≡ c = omega arith in
    let cpu : nat_lt c s.settings.cpus ≡ true = lt-ltb c s.settings.cpus lt in
    rw (many, same, write, cpu) refl

-- one count word more
biases_more : (row : List ℕ) (c : ℕ) → c < length row → set (with_biases c row) c bias ≡ with_biases (c + 1) row
biases_more row c lt =
    let next : drop c row ≡ get_or row c 0 ∷ drop (c + 1) row = rw add-one (drop-cons row c 0 lt) in
    ap (λ (xs : List ℕ). set (replicate c bias ++ xs) c bias) next
    ∙ (set_at (replicate c bias) (get_or row c 0) (drop (c + 1) row) bias c (length-replicate c bias)
    ∙ (sym (append_assoc (replicate c bias) (bias ∷ []) (drop (c + 1) row)) ∙ ap (λ (xs : List ℕ). xs ++ drop (c + 1) row) (replicate_more c bias)))

abbrev pub with_counts : State → ℕ → ℕ → State
with_counts s t c = record s { counts = set s.counts t (with_biases c (get_or s.counts t [])) }

pub counts_first : (s : State) (t : ℕ) → s ≡ with_counts s t 0
counts_first s t = ap (λ (counts : List (List ℕ)). record s { counts = counts }) (sym (set-get_or s.counts t []))

pub counts_next : (s : State) (t c : ℕ) → t < length s.counts → c < length (get_or s.counts t []) → Events.after_count_store (with_counts s t c) t c bias ≡ with_counts s t (c + 1)
counts_next s t c low lt =
    let row = get_or s.counts t [] in
    let here : get_or (set s.counts t (with_biases c row)) t [] ≡ with_biases c row = get_or-set_same s.counts t (with_biases c row) [] low in
    let more : set (get_or (set s.counts t (with_biases c row)) t []) c bias ≡ with_biases (c + 1) row = ap (λ (xs : List ℕ). set xs c bias) here ∙ biases_more row c lt in
    ap (λ (counts : List (List ℕ)). record s { counts = counts })
    (set-set s.counts t (with_biases c row) (set (get_or (set s.counts t (with_biases c row)) t []) c bias) ∙ ap (set s.counts t) more)

-- the places that are stored are there
pub count_places : (s : State) (t c : ℕ) → Holds s → Events.may_write s t ≡ true → c < s.settings.cpus → (t < length s.counts) × (c < length (get_or s.counts t []))
count_places s t c on write lt =
    let told = may_write_tells s t on.shape write in
    let low : t < length s.counts = omega (arith, told.1, on.shape.slots, on.shape.counts) in
    (low, omega (arith, on.shape.count_rows t low, lt, (ranges s.settings on.fit).cpus))

pub counts_stored : (s now next : State) (r : Reply) (t c : ℕ) → Holds s → Events.may_write s t ≡ true → c < s.settings.cpus → now ≡ with_counts s t c
    → Events.narrow_step now (StoreSlot t (5 + c) bias) ≡ Some (record { state = next; reply = r }) → next ≡ with_counts s t (c + 1)
counts_stored s now next r t c on write lt at is =
    let places = count_places s t c on write lt in
    let made = count_store_allowed (with_counts s t c) t c bias write lt in
    let here = subst (λ (x : State). Events.narrow_step x (StoreSlot t (5 + c) bias) ≡ Some (record { state = next; reply = r })) at is in
    let both : Some (record { state = next; reply = r }) ≡ Some (record { state = Events.after_count_store (with_counts s t c) t c bias; reply = Done }) = sym here ∙ made in
    let same : next ≡ Events.after_count_store (with_counts s t c) t c bias = ap state_or both in
    same ∙ counts_next s t c places.0 places.1
  where
    state_or : Option Outcome → State
    state_or None = s
    state_or (Some o) = o.state

-- The slot.

-- the first-fit slot is vacant and keeps nothing
pub first_fit_tells : (s : State) (t : ℕ) → Holds s → first_fit s ≡ Some t → (t < s.settings.slots) × (is_vacant (slot_at s.slots t) ≡ true) × (kept_at s.keeps t ≡ None)
first_fit_tells s t on is =
    let size : length s.keeps ≡ length s.slots = omega (arith, on.shape.keeps, on.shape.slots) in
    let at = position-Some is_available (zip s.slots s.keeps) t (Vacant, None) is in
    let low : t < length s.slots = omega (arith, at.0, length-zip s.slots s.keeps) in
    let pair = get_or-zip s.slots s.keeps t (Vacant, None) low (omega (arith, size)) in
    let test : is_available (slot_at s.slots t, kept_at s.keeps t) ≡ true = subst (λ (q : Slot × Option ℕ). is_available q ≡ true) pair at.1 in
    let parts = and_parts (is_vacant (slot_at s.slots t)) (is_none (kept_at s.keeps t)) test in
    (omega (arith, on.shape.slots), parts.0, none_from (kept_at s.keeps t) parts.1)

-- what is so where an entry is given
pub record IsGiven (s : State) (rec : Record) (e : Entry) : Type 0 where
  pub entry : e ≡ next_entry (length s.history) rec e.slot
  pub free : is_taken (key_of_record rec) s.slots ≡ false
  pub fit : first_fit s ≡ Some e.slot
  pub room : Events.has_room s ≡ true

pub given_tells : (s : State) (rec : Record) (e : Entry) → given_entry s rec ≡ Ok e → IsGiven s rec e
given_tells s rec e is =
    let told = answers.given_tells (is_taken (key_of_record rec) s.slots) (first_fit s) (Events.room_of s) rec e is in
    record { entry = told.entry; free = told.free; fit = told.place; room = told.fits }

pub given_writes : (s : State) (rec : Record) (e : Entry) → Holds s → at_rest s.due ≡ true → IsGiven s rec e → Events.may_write s e.slot ≡ true
given_writes s rec e on rest given =
    let fit = first_fit_tells s e.slot on given.fit in
    and_from (at_rest s.due) (nat_lt e.slot s.settings.slots && is_vacant (slot_at s.slots e.slot)) rest
    (and_from (nat_lt e.slot s.settings.slots) (is_vacant (slot_at s.slots e.slot)) (lt-ltb e.slot s.settings.slots fit.0) fit.1)

-- A refused attach: the answer is that of the parts.
pub answer_refused : (inside unfit x y : Bool) (given g : Result Entry Refusal) (f : Refusal) → inside ≡ x → unfit ≡ y → given ≡ g
    → ◌≡◌ {A = Result Entry Refusal} (Err f) (attach_answer inside unfit given)
    → IsAnswer (attach_answer x y g) (Err f)
answer_refused inside unfit x y given g f caller fit same is = subst (λ (r : Result Entry Refusal). IsAnswer r (Err f)) (is ∙ (λ i. attach_answer (caller i) (fit i) (same i))) refl

-- Linking.

words_read : (number slot high low value : ℕ) (kind : Kind) → are_key_words high low ≡ true
    → Events.entry_of slot (Events.words_of (record { number = number; slot = slot; rec = record { kind = kind; name = record { high = high; low = low }; value = value } }))
    ≡ Some (record { number = number; slot = slot; rec = record { kind = kind; name = record { high = high; low = low }; value = value } })
words_read number slot high low value Iface key = rw key refl
words_read number slot high low value Driver key = rw key refl

all_biases : (n : ℕ) → list_all Events.is_bias (replicate n bias) ≡ true
all_biases zero = refl
all_biases (suc n) = all_biases n

-- the first words of a row that was stored are all the bias
biases_stored : (cpus : ℕ) (row : List ℕ) → list_all Events.is_bias (take cpus (with_biases cpus row)) ≡ true
biases_stored cpus row =
    let size = length-replicate cpus bias in
    let first : take cpus (with_biases cpus row) ≡ replicate cpus bias =
    take-append-le cpus (replicate cpus bias) (drop cpus row) (omega (arith, size)) ∙ take-replicate cpus cpus bias (omega arith) in
    ap (list_all Events.is_bias) first ∙ all_biases cpus

-- A prepared entry may be linked: s is the state before its words are stored.
pub prepared_links : (s : State) (e : Entry) → Holds s → Events.may_write s e.slot ≡ true → e.number ≡ length s.history + 1 → IsTrue (is_lawful e.rec.name)
    → is_taken (key_of e) s.slots ≡ false → Events.has_room s ≡ true → Events.keeps_rightly (kept_at s.keeps e.slot) e.rec.kind ≡ true
    → Events.narrow_step (with_prepared s e) (Publish e.slot) ≡ Some (record { state = Events.after_publish (with_prepared s e) e.slot e; reply = Done })
prepared_links s e on write number lawful free room keeps =
    let told = may_write_tells s e.slot on.shape write in
    let row : row_at (with_prepared s e).rows e.slot ≡ Events.words_of e = get_or-set_same s.rows e.slot (Events.words_of e) no_words (omega (arith, told.1, on.shape.slots, on.shape.rows)) in
    let entry : Events.entry_of e.slot (row_at (with_prepared s e).rows e.slot) ≡ Some e =
    ap (Events.entry_of e.slot) row ∙ words_read e.number e.slot e.rec.name.high e.rec.name.low e.rec.value e.rec.kind (names_are_keys e.rec.name lawful) in
    let named : Events.names_lawfully (with_prepared s e) (Publish e.slot) ≡ true = ap (λ (r : RecordWords). are_name_words r.high r.low) row ∙ lawful in
    let numbered : (e.number == length s.history + 1) ≡ true = eq-eqb e.number (length s.history + 1) number in
    let counts : get_or (with_prepared s e).counts e.slot [] ≡ with_biases s.settings.cpus (get_or s.counts e.slot []) =
    get_or-set_same s.counts e.slot (with_biases s.settings.cpus (get_or s.counts e.slot [])) [] (omega (arith, told.1, on.shape.slots, on.shape.counts)) in
    let biased : list_all Events.is_bias (take s.settings.cpus (get_or (with_prepared s e).counts e.slot [])) ≡ true =
    ap (λ (r : List ℕ). list_all Events.is_bias (take s.settings.cpus r)) counts ∙ biases_stored s.settings.cpus (get_or s.counts e.slot []) in
    let total : (total_at s.totals e.slot == bias) ≡ true = eq-eqb (total_at s.totals e.slot) bias (on.balance.vacant e.slot told.1 told.2) in
    let link : (get_or (with_prepared s e).next e.slot 0 == s.head) ≡ true =
    eq-eqb (get_or (with_prepared s e).next e.slot 0) s.head (get_or-set_same s.next e.slot s.head 0 (omega (arith, told.1, on.shape.slots, on.shape.links))) in
    let unused : Events.are_unused (with_prepared s e) e.slot ≡ true =
    and_from (list_all Events.is_bias (take s.settings.cpus (get_or (with_prepared s e).counts e.slot []))) (total_at s.totals e.slot == bias) biased total in
    let ready : Events.is_prepared (with_prepared s e) e.slot e.rec.kind ≡ true =
    and_from (get_or (with_prepared s e).next e.slot 0 == s.head) (Events.are_unused (with_prepared s e) e.slot && Events.keeps_rightly (kept_at s.keeps e.slot) e.rec.kind) link
    (and_from (Events.are_unused (with_prepared s e) e.slot) (Events.keeps_rightly (kept_at s.keeps e.slot) e.rec.kind) unused keeps) in
    let name : not (is_taken (key_of e) s.slots) ≡ true = ap not free in
    let fit = Events.has_room s && Events.is_prepared (with_prepared s e) e.slot e.rec.kind in
    let may : Events.may_publish (with_prepared s e) e.slot e ≡ true =
    and_from (Events.may_write s e.slot) (e.number == length s.history + 1 && (not (is_taken (key_of e) s.slots) && fit)) write
    (and_from (e.number == length s.history + 1) (not (is_taken (key_of e) s.slots) && fit) numbered
    (and_from (not (is_taken (key_of e) s.slots)) fit name
    (and_from (Events.has_room s) (Events.is_prepared (with_prepared s e) e.slot e.rec.kind) room ready))) in
    links_if (with_prepared s e) e.slot e named entry may
  where
    links_if : (s : State) (t : ℕ) (e : Entry) → Events.names_lawfully s (Publish t) ≡ true → Events.entry_of t (row_at s.rows t) ≡ Some e → Events.may_publish s t e ≡ true → Events.narrow_step s (Publish t) ≡ Some (record { state = Events.after_publish s t e; reply = Done })
    links_if s t e named entry may = rw (named, entry, may) refl

-- What an attach puts back.

-- the words and seats are those that the slot had
pub words_restored : (s : State) (e : Entry) → with_attach_undone (with_prepared (all_seated s) e) e.slot (words_before s e.slot) ≡ s
words_restored s e =
    let t = e.slot in
    let rows : set (set s.rows t (Events.words_of e)) t (row_at s.rows t) ≡ s.rows = set-set s.rows t (Events.words_of e) (row_at s.rows t) ∙ set-get_or s.rows t no_words in
    let row = get_or s.counts t [] in
    let counts : set (set s.counts t (with_biases s.settings.cpus row)) t row ≡ s.counts = set-set s.counts t (with_biases s.settings.cpus row) row ∙ set-get_or s.counts t [] in
    let next : set (set s.next t s.head) t (get_or s.next t 0) ≡ s.next = set-set s.next t s.head (get_or s.next t 0) ∙ set-get_or s.next t 0 in
    ap (λ (x : List RecordWords). record s { rows = x; counts = set (set s.counts t (with_biases s.settings.cpus row)) t row; next = set (set s.next t s.head) t (get_or s.next t 0) }) rows
    ∙ (ap (λ (x : List (List ℕ)). record s { counts = x; next = set (set s.next t s.head) t (get_or s.next t 0) }) counts
    ∙ ap (λ (x : List ℕ). record s { next = x }) next)

-- all CPUs may be seated
pub seated_keeps : (s : State) → Holds s → Holds (all_seated s)
seated_keeps s on =
    let seats : SeatsShow s.settings.cpus s.settings.cpus s.begins s.searches s.hands = record {
      within = omega arith;
      outside = λ c ge. on.seats.outside c (omega (arith, on.seats.within, ge));
      unsearching = λ c ge. on.seats.unsearching c (omega (arith, on.seats.within, ge));
      empty = λ c ge. on.seats.empty c (omega (arith, on.seats.within, ge));
    } in
    assumption

-- an entry's words may be stored, and then it may be linked
pub record MayLink (s : State) (e : Entry) : Type 0 where
  pub writes : Events.may_write s e.slot ≡ true
  pub links : Events.narrow_step (with_prepared s e) (Publish e.slot) ≡ Some (record { state = Events.after_publish (with_prepared s e) e.slot e; reply = Done })

-- what a given entry is, in a state with the same history and slots
may_link : (s : State) (rec : Record) (e : Entry) → Holds s → Events.may_write s e.slot ≡ true → e ≡ next_entry (length s.history) rec e.slot → is_taken (key_of_record rec) s.slots ≡ false
    → Events.has_room s ≡ true
    → IsTrue (is_lawful rec.name) → Events.keeps_rightly (kept_at s.keeps e.slot) rec.kind ≡ true → MayLink s e
may_link s rec e on writes is free room lawful keeps =
    let same : e.rec ≡ rec = ap (λ (x : Entry). x.rec) is in
    assumption (
    prepared_links s e on writes (ap (λ (x : Entry). x.number) is)
    (subst (λ (r : Record). IsTrue (is_lawful r.name)) (sym same) lawful)
    (ap (λ (r : Record). is_taken (key_of_record r) s.slots) same ∙ free) room
    (ap (λ (r : Record). Events.keeps_rightly (kept_at s.keeps e.slot) r.kind) same ∙ keeps)
    )

driver_keeps : (kept : Option ℕ) (kind : Kind) → kept ≡ None → is_iface kind ≡ false → Events.keeps_rightly kept kind ≡ true
driver_keeps kept Iface none other = absurd (let q : ◌≡◌ {A = Bool} true false = other in cc)
driver_keeps kept Driver none other = ap (λ (o : Option ℕ). Events.keeps_rightly o Driver) none

pub driver_links : (s : State) (rec : Record) (e : Entry) → Holds s → at_rest s.due ≡ true → given_entry s rec ≡ Ok e → is_iface rec.kind ≡ false → IsTrue (is_lawful rec.name)
    → MayLink (all_seated s) e
driver_links s rec e on rest is other lawful =
    let given = given_tells s rec e is in
    let fit = first_fit_tells s e.slot on given.fit in
    may_link (all_seated s) rec e (seated_keeps s on) (given_writes s rec e on rest given) given.entry given.free given.room lawful (driver_keeps (kept_at s.keeps e.slot) rec.kind fit.2 other)

-- The same along a call: `room`, `begun`, `ready` and `now` are the states that its steps leave.
pub call_restored : (s room begun ready now : State) (e : Entry) (before : Before) → room ≡ s → before ≡ words_before room e.slot → begun ≡ all_seated room → ready ≡ with_prepared begun e
    → now ≡ ready
    → with_attach_undone now e.slot before ≡ s
call_restored s room begun ready now e before same kept seats words stays =
    ap (λ (x : State). with_attach_undone x e.slot before) (stays ∙ (words ∙ ap (λ (x : State). with_prepared x e) (seats ∙ ap all_seated same)))
    ∙ (ap (with_attach_undone (with_prepared (all_seated s) e) e.slot) (kept ∙ ap (λ (x : State). words_before x e.slot) same) ∙ words_restored s e)

-- storing and linking an entry and seeing it leaves who may act
pub call_acts : (begun ready made now : State) (e : Entry) (c d : ℕ) → ready ≡ with_prepared begun e → made ≡ Events.after_publish ready e.slot e → now ≡ Events.after_seeing made c → may_act begun d ≡ true
    → may_act now d ≡ true
call_acts begun ready made now e c d words links sees may =
    ap (λ (x : State). may_act x d) (sees ∙ ap (λ (x : State). Events.after_seeing x c) (links ∙ ap (λ (x : State). Events.after_publish x e.slot e) words)) ∙ may

-- Interfaces: the reference that the slot takes over.

number_from : (slots : List Slot) (p : LocalPlace) → is_driver_number slots (Events.number_standing p) ≡ true → (n : ℕ) × (p ≡ Standing n) × (is_driver_in slots (slot_of slots n) ≡ true)
number_from slots (Standing n) is = (n, refl, is)
number_from slots _ is = absurd (let q : ◌≡◌ {A = Bool} false true = is in cc)

driver_from : (slots : List Slot) (place : Option ℕ) → is_driver_in slots place ≡ true → (u : ℕ) × (place ≡ Some u) × (Events.is_driver_slot (slot_at slots u) ≡ true)
driver_from slots None is = absurd (let q : ◌≡◌ {A = Bool} false true = is in cc)
driver_from slots (Some u) is = (u, refl, is)

iface_keeps : (n : ℕ) (kind : Kind) → is_iface kind ≡ true → Events.keeps_rightly (Some n) kind ≡ true
iface_keeps n kind is = is

-- the slot of e may take the reference over, and then e may be linked
pub record MayPlug (s : State) (e : Entry) (id : ℕ) : Type 0 where
  pub writes : Events.may_write s e.slot ≡ true
  pub empty : kept_at s.keeps e.slot ≡ None
  pub holds : Holds (with_reference_kept s e.slot id)
  pub links : MayLink (with_reference_kept (all_seated s) e.slot id) e

pub iface_links : (s : State) (rec : Record) (e : Entry) (id : ℕ) → Holds s → at_rest s.due ≡ true → given_entry s rec ≡ Ok e → is_to_driver s id ≡ true → is_iface rec.kind ≡ true
    → IsTrue (is_lawful rec.name)
    → MayPlug s e id
iface_links s rec e id on rest is driver iface lawful =
    let t = e.slot in
    let given = given_tells s rec e is in
    let fit = first_fit_tells s t on given.fit in
    let writes = given_writes s rec e on rest given in
    let number = number_from s.slots (local_at s.locals id) driver in
    let n : ℕ = number.0 in
    let at : local_at s.locals id ≡ Standing n = number.1 in
    let place = driver_from s.slots (slot_of s.slots n) number.2 in
    let u : ℕ = place.0 in
    let may : Events.may_keep s t u ≡ true = and_from (Events.may_write s t) (is_none (kept_at s.keeps t) && Events.is_driver_slot (slot_at s.slots u)) writes
    (and_from (is_none (kept_at s.keeps t)) (Events.is_driver_slot (slot_at s.slots u)) (ap is_none fit.2) place.2) in
    let kept : with_reference_kept s t id ≡ Events.after_keep s t id n = ap (λ (o : Option ℕ). record s { locals = set s.locals id Free; keeps = set s.keeps t o }) (ap Events.number_standing at) in
    let holds : Holds (with_reference_kept s t id) = subst Holds (sym kept) (keep_keeps s t id n u on at place.1 may) in
    let now : kept_at (with_reference_kept s t id).keeps t ≡ Some n =
    get_or-set_same s.keeps t (Events.number_standing (local_at s.locals id)) None (omega (arith, fit.0, on.shape.keeps)) ∙ ap Events.number_standing at in
    let rightly : Events.keeps_rightly (kept_at (with_reference_kept s t id).keeps t) rec.kind ≡ true = ap (λ (o : Option ℕ). Events.keeps_rightly o rec.kind) now ∙ iface_keeps n rec.kind iface in
    assumption (may_link (with_reference_kept (all_seated s) t id) rec e (seated_keeps (with_reference_kept s t id) holds) writes given.entry given.free given.room lawful rightly)

-- the reference has its place again
reference_restored : (s : State) (t id : ℕ) → kept_at s.keeps t ≡ None → with_reference_given_back (with_reference_kept s t id) t id (local_at s.locals id) ≡ s
reference_restored s t id empty =
    let x = Events.number_standing (local_at s.locals id) in
    let locals : set (set s.locals id Free) id (local_at s.locals id) ≡ s.locals = set-set s.locals id Free (local_at s.locals id) ∙ set-get_or s.locals id Free in
    let keeps : set (set s.keeps t x) t None ≡ s.keeps = set-set s.keeps t x None ∙ (ap (set s.keeps t) (sym empty) ∙ set-get_or s.keeps t None) in
    ap (λ (l : List LocalPlace). record s { locals = l; keeps = set (set s.keeps t x) t None }) locals
    ∙ ap (λ (k : List (Option ℕ)). record s { keeps = k }) keeps

-- The same along a call, whose steps leave the states `room`, `begun`, `kept`, `ready`, `now` and `words`.
pub record PlugSteps (s room begun kept ready now : State) (e : Entry) (id : ℕ) (before : Before) : Type 0 where
  pub same : room ≡ s
  pub saved : before ≡ words_before room e.slot
  pub seats : begun ≡ all_seated room
  pub keeps : kept ≡ with_reference_kept begun e.slot id
  pub words : ready ≡ with_prepared kept e
  pub stays : now ≡ ready

pub plug_words_restored : (s room begun kept ready now : State) (e : Entry) (id : ℕ) (before : Before) → PlugSteps s room begun kept ready now e id before
    → with_attach_undone now e.slot before ≡ with_reference_kept s e.slot id
plug_words_restored s room begun kept ready now e id before c =
    let begins : begun ≡ all_seated s = c.seats ∙ ap all_seated c.same in
    ap (λ (x : State). with_attach_undone x e.slot before) (c.stays ∙ (c.words ∙ ap (λ (x : State). with_prepared x e) (c.keeps ∙ ap (λ (x : State). with_reference_kept x e.slot id) begins)))
    ∙ (ap (with_attach_undone (with_prepared (with_reference_kept (all_seated s) e.slot id) e) e.slot) (c.saved ∙ ap (λ (x : State). words_before x e.slot) c.same)
    ∙ words_restored (with_reference_kept s e.slot id) e)

pub plug_restored : (s room words : State) (t id : ℕ) (place : LocalPlace) → kept_at s.keeps t ≡ None → room ≡ s → place ≡ local_at room.locals id → words ≡ with_reference_kept s t id
    → with_reference_given_back words t id place ≡ s
plug_restored s room words t id place empty same saved is =
    ap (λ (x : State). with_reference_given_back x t id place) is
    ∙ (ap (with_reference_given_back (with_reference_kept s t id) t id) (saved ∙ ap (λ (x : State). local_at x.locals id) same) ∙ reference_restored s t id empty)

-- The live entry with a key is the one that a lookup of it gives now; and the row of marks, while its snapshots are taken.

-- Live entries and keys

-- the first place with a live entry of the key
pub place_lookup : (s : State) (key : Key) (t : ℕ) → Holds s → position (is_live_as key) s.slots ≡ Some t
    → (e : Entry) × (slot_at s.slots t ≡ Live e) × IsLookupNow s key (Some e) × (slot_at s.slots e.slot ≡ Live e)
place_lookup s key t on at =
    let found = position-Some (is_live_as key) s.slots t Vacant at in
    let live = live_tells key (slot_at s.slots t) found.1 in
    let shown = on.slots.live t live.0 live.1 in
    (live.0, live.1, (shown.0, live.2), on.slots.placed live.0 shown.0)

pub place_is : (s : State) (key : Key) (t : ℕ) (e : Entry) → Holds s → position (is_live_as key) s.slots ≡ Some t → slot_at s.slots t ≡ Live e
    → IsLookupNow s key (Some e) × (slot_at s.slots e.slot ≡ Live e)
place_is s key t e on at live =
    let found = place_lookup s key t on at in
    let one : found.0 ≡ e = live_one found.0 e (slot_at s.slots t) live (inl found.1) in
    subst (λ (f : Entry). IsLookupNow s key (Some f) × (slot_at s.slots f.slot ≡ Live f)) one (found.2, found.3)

-- where there is no such place, a lookup finds none
pub no_place_lookup : (s : State) (key : Key) → Holds s → position (is_live_as key) s.slots ≡ None → IsLookupNow s key None
no_place_lookup s key on none e live same =
    let placed : slot_at s.slots e.slot ≡ Live e = on.slots.placed e live in
    let test : is_live_as key (slot_at s.slots e.slot) ≡ true = ap (is_live_as key) placed ∙ (ap (λ (k : Key). same_key k key) same ∙ key_same key) in
    position_fails (is_live_as key) s.slots e.slot Vacant none (in_within s.slots e.slot e (inl placed)) test

-- a slot that shows another thing isn't that place
pub place_live : (s : State) (key : Key) (t : ℕ) (x : Slot) → Holds s → position (is_live_as key) s.slots ≡ Some t → x ≡ slot_at s.slots t → ((e : Entry) → x ≡ Live e → ⊥) → ⊥
place_live s key t x on at is not_live =
    let found = place_lookup s key t on at in
    not_live found.0 (is ∙ found.1)

-- the entry that a lookup found is live
pub found_live : (s : State) (found : Option Entry) (e : Entry) → found ≡ Some e → IfSome found (λ f. slot_at s.slots f.slot ≡ Live f) → slot_at s.slots e.slot ≡ Live e
found_live s found e is live = subst (λ (o : Option Entry). IfSome o (λ f. slot_at s.slots f.slot ≡ Live f)) is live

-- a detach is refused inside a section, or where the lookup finds nothing
pub refused_rightly : (s : State) (c : ℕ) (key : Key) (inside : Bool) (found : Option Entry) (f : Refusal) → Events.is_inside s c ≡ inside → IsLookupNow s key found
    → ◌≡◌ {A = Result Entry Refusal} (Err f) (detach_answer inside found) → IsDetachRefusal s c key f
refused_rightly s c key true found f in_section lookup is = subst (IsDetachRefusal s c key) (same_Err Inside f (sym is)) in_section
refused_rightly s c key false None f outside lookup is = subst (IsDetachRefusal s c key) (same_Err NotFound f (sym is)) (outside, lookup)
refused_rightly s c key false (Some e) f outside lookup is = absurd (let q : ◌≡◌ {A = Result Entry Refusal} (Err f) (Ok e) = is in cc)

-- one more mark of a row whose first k are the snapshots
row_more : (xs : List ℕ) (k : ℕ) → k < length xs → k < MOST_CPUS
    → set (map Events.snapshot_mark (take k xs) ++ replicate (MOST_CPUS - k) no_mark) k (Events.snapshot_mark (get_or xs k 0)) ≡ map Events.snapshot_mark (take (k + 1) xs) ++ replicate (MOST_CPUS - (k + 1)) no_mark
row_more xs k lt small =
    let rest : MOST_CPUS - k ≡ suc (MOST_CPUS - (k + 1)) = omega arith in
    let reach : length (map Events.snapshot_mark (take k xs)) ≡ k = length-map (take k xs) Events.snapshot_mark ∙ length-take-le k xs (omega arith) in
    ap (λ (n : ℕ). set (map Events.snapshot_mark (take k xs) ++ replicate n no_mark) k (Events.snapshot_mark (get_or xs k 0))) rest
    ∙ (set_at (map Events.snapshot_mark (take k xs)) no_mark (replicate (MOST_CPUS - (k + 1)) no_mark) (Events.snapshot_mark (get_or xs k 0)) k reach
    ∙ (sym (append_assoc (map Events.snapshot_mark (take k xs)) (Events.snapshot_mark (get_or xs k 0) ∷ []) (replicate (MOST_CPUS - (k + 1)) no_mark))
    ∙ ap (λ (row : List Mark). row ++ replicate (MOST_CPUS - (k + 1)) no_mark) (sym (map_more Events.snapshot_mark xs k 0 lt))))

-- the snapshots of the CPUs below k for t were taken
abbrev pub row_so_far : State → ℕ → List Mark
row_so_far s k = map Events.snapshot_mark (take k s.section) ++ replicate (MOST_CPUS - k) no_mark

abbrev pub due_from : State → ℕ → ℕ → Due
due_from s t k = if nat_lt k s.settings.cpus then Snapshots t k else Rest

abbrev pub snapping : State → ℕ → ℕ → State
snapping s t k = record s { marks = set s.marks t (row_so_far s k); due = due_from s t k }

-- before the first
pub snapping_starts : (s : State) (t : ℕ) → Holds s → s.due ≡ Snapshots t 0 → get_or s.marks t [] ≡ replicate MOST_CPUS no_mark → s ≡ snapping s t 0
snapping_starts s t on due blank =
    let some : nat_lt 0 s.settings.cpus ≡ true = lt-ltb 0 s.settings.cpus (ranges s.settings on.fit).some_cpu in
    let first : s.due ≡ due_from s t 0 = due ∙ ap (λ (b : Bool). if b then Snapshots t 0 else Rest) (sym some) in
    let marks : s.marks ≡ set s.marks t (replicate MOST_CPUS no_mark) = sym (set-get_or s.marks t []) ∙ ap (set s.marks t) blank in
    λ i. record s { marks = marks i; due = first i }

-- after the last
pub snapping_ends : (s : State) (t : ℕ) → Holds s → snapping s t s.settings.cpus ≡ with_all_snapshots s t
snapping_ends s t on =
    let none : nat_lt s.settings.cpus s.settings.cpus ≡ false = le-ltb s.settings.cpus s.settings.cpus (omega arith) in
    let all : take s.settings.cpus s.section ≡ s.section = take_all s.settings.cpus s.section (omega (arith, on.shape.sections)) in
    λ i. record s { marks = set s.marks t (map Events.snapshot_mark (all i) ++ replicate (MOST_CPUS - s.settings.cpus) no_mark); due = if none i then Snapshots t s.settings.cpus else Rest }

-- and the next one
pub snap_more : (s : State) (t k : ℕ) → t < length s.marks → k < length s.section → k < MOST_CPUS → Events.after_snapshot (snapping s t k) t k ≡ snapping s t (k + 1)
snap_more s t k lt within small =
    let row : get_or (set s.marks t (row_so_far s k)) t [] ≡ row_so_far s k = get_or-set_same s.marks t (row_so_far s k) [] lt in
    let marks : set (set s.marks t (row_so_far s k)) t (set (get_or (set s.marks t (row_so_far s k)) t []) k (Events.snapshot_mark (section_at s k))) ≡ set s.marks t (row_so_far s (k + 1)) =
    set-set s.marks t (row_so_far s k) (set (get_or (set s.marks t (row_so_far s k)) t []) k (Events.snapshot_mark (section_at s k)))
    ∙ ap (set s.marks t) (ap (λ (r : List Mark). set r k (Events.snapshot_mark (section_at s k))) row ∙ row_more s.section k within small) in
    ap (λ (m : List (List Mark)). record s { marks = m; due = due_from s t (k + 1) }) marks

-- the slot whose snapshots are due is in range
pub due_within : (s : State) (t : ℕ) → Holds s → s.due ≡ Snapshots t 0 → t < length s.marks
due_within s t on due =
    let gone = (subst (DueHolds s.settings.cpus s.slots) due on.references.due_at).1 in
    omega (arith, in_within s.slots t gone.0 (inr gone.1), on.shape.slots, on.shape.marks)

pub due_is : (s : State) (t k : ℕ) → k < s.settings.cpus → Events.is_snapshot_due (due_from s t k) t k ≡ true
due_is s t k lt = rw (lt-ltb k s.settings.cpus lt, eq-eqb t t refl, eq-eqb k k refl) refl

-- the next snapshot is the one that is due
pub snap_allowed : (s u : State) (t k : ℕ) → k < s.settings.cpus → u ≡ snapping s t k → Events.is_snapshot_due u.due t k ≡ true
snap_allowed s u t k lt is = ap (λ (x : State). Events.is_snapshot_due x.due t k) is ∙ due_is s t k lt

pub snap_turns : (s u v : State) (t k : ℕ) (r : Reply) → Holds s → s.due ≡ Snapshots t 0 → k < s.settings.cpus → u ≡ snapping s t k
    → Events.guard (Events.is_snapshot_due u.due t k) (Events.some_outcome (Events.after_snapshot u t k) (Word (section_at u k))) ≡ Some (record { state = v; reply = r }) → v ≡ snapping s t (k + 1)
snap_turns s u v t k r on due lt is made =
    made_is (Events.is_snapshot_due u.due t k) (Events.after_snapshot u t k) v (Word (section_at u k)) r (snap_allowed s u t k lt is) made
    ∙ (ap (λ (x : State). Events.after_snapshot x t k) is
    ∙ snap_more s t k (due_within s t on due) (omega (arith, on.shape.sections)) (omega (arith, (ranges s.settings on.fit).cpus, lt)))

-- What an unlinking leaves alone: the link of the one before is a word, and so is the head.
blank_by : (s : State) (t : ℕ) (e : Entry) (before : Option ℕ) → t < length s.marks → get_or (Events.with_retired (Events.with_link_past s t before) t e).marks t [] ≡ replicate MOST_CPUS no_mark
blank_by s t e None lt = get_or-set_same s.marks t (replicate MOST_CPUS no_mark) [] lt
blank_by s t e (Some p) lt = get_or-set_same s.marks t (replicate MOST_CPUS no_mark) [] lt

pub unlinked_blank : (s u : State) (e : Entry) → Holds s → slot_at s.slots e.slot ≡ Live e → u ≡ Events.after_unpublish (all_seated s) e.slot e → get_or u.marks e.slot [] ≡ replicate MOST_CPUS no_mark
unlinked_blank s u e on live is =
    ap (λ (x : State). get_or x.marks e.slot []) is
    ∙ blank_by (all_seated s) e.slot e (slot_before s.slots s.next e.slot) (omega (arith, in_within s.slots e.slot e (inl live), on.shape.slots, on.shape.marks))

idle_by : (s : State) (t : ℕ) (e : Entry) (before : Option ℕ) (d : ℕ) → Events.is_idle (Events.with_retired (Events.with_link_past s t before) t e) d ≡ Events.is_idle s d
idle_by s t e None d = refl
idle_by s t e (Some p) d = refl

may_by : (s : State) (t : ℕ) (e : Entry) (before : Option ℕ) (d : ℕ) → may_act (Events.with_retired (Events.with_link_past s t before) t e) d ≡ may_act s d
may_by s t e None d = refl
may_by s t e (Some p) d = refl

pub settings_by : (s : State) (t : ℕ) (e : Entry) (before : Option ℕ) → (Events.with_retired (Events.with_link_past s t before) t e).settings ≡ s.settings
settings_by s t e None = refl
settings_by s t e (Some p) = refl

-- the snapshots were taken, and the keeper has told of it
pub snapped_told : (s u v w : State) (e : Entry) (r : Reply) → u ≡ Events.after_unpublish (all_seated s) e.slot e → v ≡ with_all_snapshots u e.slot
    → Events.guard (at_rest v.due) (Events.some_outcome v Done) ≡ Some (record { state = w; reply = r })
    → w ≡ with_all_snapshots (Events.after_unpublish (all_seated s) e.slot e) e.slot
snapped_told s u v w e r unlinked taken_all made =
    let all : v ≡ with_all_snapshots (Events.after_unpublish (all_seated s) e.slot e) e.slot = taken_all ∙ ap (λ (x : State). with_all_snapshots x e.slot) unlinked in
    made_is (at_rest v.due) v w Done r (ap (λ (x : State). at_rest x.due) all) made ∙ all

-- whoever is idle stays so
pub snapped_idle : (s w : State) (e : Entry) (c : ℕ) → w ≡ with_all_snapshots (Events.after_unpublish (all_seated s) e.slot e) e.slot → Events.is_idle (all_seated s) c ≡ true → Events.is_idle w c ≡ true
snapped_idle s w e c is idle = ap (λ (x : State). Events.is_idle x c) is ∙ (idle_by (all_seated s) e.slot e (slot_before s.slots s.next e.slot) c ∙ idle)

-- the CPU has heard of it
pub detached_is : (s w x : State) (e : Entry) (c : ℕ) (r : Reply) → w ≡ with_all_snapshots (Events.after_unpublish (all_seated s) e.slot e) e.slot → Events.is_idle (all_seated s) c ≡ true
    → Events.guard (Events.is_idle w c) (Events.some_outcome (Events.after_seeing w c) Done) ≡ Some (record { state = x; reply = r }) → x ≡ with_detached s c e
detached_is s w x e c r is idle made =
    made_is (Events.is_idle w c) (Events.after_seeing w c) x Done r (snapped_idle s w e c is idle) made ∙ ap (λ (y : State). Events.after_seeing y c) is

pub detached_settings : (s x : State) (e : Entry) (c : ℕ) → x ≡ with_detached s c e → x.settings ≡ s.settings
detached_settings s x e c is = ap (λ (y : State). y.settings) is ∙ settings_by (all_seated s) e.slot e (slot_before s.slots s.next e.slot)

pub detached_ready : (s x : State) (e : Entry) (c : ℕ) → Holds s → x ≡ with_detached s c e → (d : ℕ) → may_act s d ≡ true → may_act x d ≡ true
detached_ready s x e c on is d may =
    ap (λ (y : State). may_act y d) is ∙ (may_by (all_seated s) e.slot e (slot_before s.slots s.next e.slot) d ∙ acting_on s d on may)
