-- Lists of events, one after the other.
use Rattle.std.proofs.Common.{get_or, get_or-set_same, replicate, ◌≡◌, ℕ, zero, suc, ◌+◌, ◌-◌, ◌<◌, ◌≤◌, inl, inr, List, [], ◌∷◌, ◌++◌, Option, Some, None, Bool, true, false, ◌&&◌, nat_lt, Ok, refl, sym, ap, subst, ◌∙◌, arith, lt-ltb}
use Rattle.std.specs.Prelude.{All, is_none, if◌then◌else◌}
use Rattle.std.proofs.lemmas.Option.{same_Some}
use Rattle.std.proofs.lemmas.Bool.{and_parts, eq-eqb}
use Rattle.std.proofs.lemmas.List.Elements.{All-append, All-cons, All-nil, All-push, All-weaker}
use Rattle.passive_core.specs.Types.{Slot, Stage, Grace, Passive, Local, Freed, Event, Seat, Seek, LoadRecord, Publish, Unpublish, Tell, Hear, CountAdd, SplitRef, JoinRef, CountDown, SplitBack, RecordOf, Reply, Done, Ref, Word, Entry, Settings, MOST_CPUS, Live, Snapshots, Hand, Empty, Taking, Key}
use Rattle.registry_values.specs.Common.{retired_slot, bias, no_mark, slot_at, slot_before, slot_of}
use Rattle.protocol.specs.Common.{after_count_add, after_count_store, after_publish, after_snapshot, after_split, after_unpublish, is_idle, least_id, load_record, may_write, some_outcome, narrow_step, Holds, IsLoadOf, State, at_rest, count_at, found_at, hand_at, is_empty, search_at, section_at}
use Rattle.protocol.proofs.keeps.SectionKeeps.{empty_from}
use Rattle.registry_values.proofs.Fit.{ranges}
use Rattle.passive_core.proofs.Attaching.{count_places, count_store_allowed, counts_first, counts_next, with_counts, due_is, due_within, settings_by, snap_more, snapping, snapping_ends, snapping_starts}
use Rattle.passive_core.specs.Common.{with_all_snapshots, all_seated, AdvanceLeaves, Settles, is_counting, local_slot, count_in, release_events, under_events, with_count_more, AdvanceMakes, IsWork, count_stores_from, detach_events, linking_events, prepare_events, snapshots_from, FindMakes, IsCollectionFor, IsLookFor, IsPassiveLookFor, IsSeat, IsWaiting, Makes, MakesOnly, seats_and, seats_from}
use Rattle.passive_core.proofs.Locals.{set_back}
use Rattle.passive_core.proofs.Advancing.{is_freed, slots_again}
use Rattle.protocol.proofs.Either.{either}

pub makes_one : (s n : State) (event : Event) (r : Reply) → narrow_step s event ≡ Some (record { state = n; reply = r }) → Makes s (event ∷ []) n
makes_one s n event r made = (record { state = n; reply = r }, made, refl)

pub makes_first : (s m n : State) (event : Event) (r : Reply) (events : List Event) → narrow_step s event ≡ Some (record { state = m; reply = r }) → Makes m events n → Makes s (event ∷ events) n
makes_first s m n event r events made more = (record { state = m; reply = r }, made, more)

pub makes_more : (a b d : State) (es fs : List Event) → Makes a es b → Makes b fs d → Makes a (es ++ fs) d
makes_more a b d [] fs first more = subst (λ (x : State). Makes x fs d) first more
makes_more a b d (e ∷ es) fs first more = (first.0, first.1, makes_more first.0.state b d es fs first.2 more)

pub makes_inside : (a b d : State) (es fs gs : List Event) → Makes a (es ++ fs) b → Makes b gs d → Makes a (es ++ (fs ++ gs)) d
makes_inside a b d [] fs gs first more = makes_more a b d fs gs first more
makes_inside a b d (e ∷ es) fs gs first more = (first.0, first.1, makes_inside first.0.state b d es fs gs first.2 more)

-- a load leaves all as it was
pub makes_load : (s n : State) (of : RecordOf) (w : ℕ) (events : List Event) (d : State) → load_record s of ≡ some_outcome s (Word w) → n ≡ s → Makes n events d → Makes s (LoadRecord of ∷ events) d
makes_load s n of w events d loads same more = (record { state = s; reply = Word w }, loads, subst (λ (x : State). Makes x events d) same more)

-- Seats

seat_allowed : (s : State) (c : ℕ) → at_rest s.due ≡ true → c < s.settings.cpus → narrow_step (record s { seated = c }) (Seat c) ≡ Some (record { state = record s { seated = c + 1 }; reply = Done })
seat_allowed s c rest lt = rw (rest, eq-eqb c c refl, lt-ltb c s.settings.cpus lt) refl

seats_make : (s : State) (c n : ℕ) → at_rest s.due ≡ true → c + n ≡ s.settings.cpus → Makes (record s { seated = c }) (seats_from c n) (all_seated s)
seats_make s c zero rest all = ap (λ (k : ℕ). record s { seated = k }) (omega (arith, all))
seats_make s c (suc n) rest all = (record { state = record s { seated = c + 1 }; reply = Done }, seat_allowed s c rest (omega (arith, all)), seats_make s (c + 1) n rest (omega (arith, all)))

-- all CPUs get their seats, and then these events are made
pub seated_and : (s u n : State) (events : List Event) → Holds s → at_rest s.due ≡ true → u ≡ all_seated s → Makes u events n → Makes s (seats_and s events) n
seated_and s u n events on rest seated more =
    let within : s.seated ≤ s.settings.cpus = on.seats.within in
    makes_more s (all_seated s) n (seats_from s.seated (s.settings.cpus - s.seated)) events
    (seats_make s s.seated (s.settings.cpus - s.seated) rest (omega (arith, within))) (subst (λ (x : State). Makes x events n) seated more)

-- Events of one kind

pub only_none : (P : Event → Type 0) (s : State) → MakesOnly P s s
only_none P s = record { events = []; kind = All-nil P; made = refl }

pub only_one : (P : Event → Type 0) (s n : State) (event : Event) (r : Reply) → P event → narrow_step s event ≡ Some (record { state = n; reply = r }) → MakesOnly P s n
only_one P s n event r is made = record { events = event ∷ []; kind = All-cons P event [] is (All-nil P); made = makes_one s n event r made }

pub only_after : (P : Event → Type 0) (a b d : State) → MakesOnly P a b → MakesOnly P b d → MakesOnly P a d
only_after P a b d x y = record { events = x.events ++ y.events; kind = All-append P x.events y.events x.kind y.kind; made = makes_more a b d x.events y.events x.made y.made }

-- what is of one kind is of a wider one
pub only_wider : (P Q : Event → Type 0) (a b : State) → ((e : Event) → P e → Q e) → MakesOnly P a b → MakesOnly Q a b
only_wider P Q a b wide x = record { events = x.events; kind = All-weaker P Q wide x.events x.kind; made = x.made }

all_seats : (c n : ℕ) → All IsSeat (seats_from c n)
all_seats c zero = All-nil IsSeat
all_seats c (suc n) = All-cons IsSeat (Seat c) (seats_from (c + 1) n) (c, refl) (all_seats (c + 1) n)

pub only_seats : (s u : State) → Holds s → at_rest s.due ≡ true → u ≡ all_seated s → MakesOnly IsSeat s u
only_seats s u on rest seated =
    let within : s.seated ≤ s.settings.cpus = on.seats.within in
    record {
      events = seats_from s.seated (s.settings.cpus - s.seated);
      kind = all_seats s.seated (s.settings.cpus - s.seated);
      made = subst (λ (x : State). Makes s (seats_from s.seated (s.settings.cpus - s.seated)) x) (sym seated) (seats_make s s.seated (s.settings.cpus - s.seated) rest (omega (arith, within)));
    }

-- The work on a slot, step by step

pub looks_more : (s m n : State) (t : ℕ) → MakesOnly (IsLookFor t) s m → MakesOnly (IsPassiveLookFor t) m n → MakesOnly (IsPassiveLookFor t) s n
looks_more s m n t x y = only_after (IsPassiveLookFor t) s m n (only_wider (IsLookFor t) (IsPassiveLookFor t) s m (λ e is. inl is) x) y

pub passive_more : (s m n : State) (t : ℕ) → MakesOnly (IsPassiveLookFor t) s m → MakesOnly (IsCollectionFor t) m n → MakesOnly (IsCollectionFor t) s n
passive_more s m n t x y = only_after (IsCollectionFor t) s m n (only_wider (IsPassiveLookFor t) (IsCollectionFor t) s m (λ e is. inl is) x) y

-- the words are collected, and the rest of the work is done
pub work_done : (s m n : State) (t : ℕ) (stage : Stage) → Settles m n t stage → MakesOnly (IsCollectionFor t) s m → MakesOnly (IsWork stage t) m n → MakesOnly (IsWork stage t) s n
work_done s m n t (Local k) settles x y = only_after (IsCollectionFor t) s m n x y
work_done s m n t (Freed u) settles x y = only_after (IsWork (Freed u) t) s m n (only_wider (IsCollectionFor t) (IsWork (Freed u) t) s m (λ e is. inl is) x) y
work_done s m n t _ settles x y = absurd settles

-- the work begins with the seats
pub work_seated : (s u n : State) (t : ℕ) (stage : Stage) → MakesOnly IsSeat s u → MakesOnly (IsWork stage t) u n → MakesOnly (IsWork stage t) s n
work_seated s u n t (Grace c) x y = only_after (IsWork (Grace c) t) s u n (only_wider IsSeat (IsWork (Grace c) t) s u (λ e is. inl is) x) y
work_seated s u n t (Passive c) x y = only_after (IsWork (Passive c) t) s u n (only_wider IsSeat (IsWork (Passive c) t) s u (λ e is. inl (inl is)) x) y
work_seated s u n t (Local k) x y = only_after (IsWork (Local k) t) s u n (only_wider IsSeat (IsWork (Local k) t) s u (λ e is. inl (inl (inl is))) x) y
work_seated s u n t (Freed v) x y = only_after (IsWork (Freed v) t) s u n (only_wider IsSeat (IsWork (Freed v) t) s u (λ e is. inl (inl (inl (inl is)))) x) y

-- two turns that met the same obstacle
pub work_again : (s m n : State) (number : ℕ) (stage next : Stage) → is_freed stage ≡ false → AdvanceLeaves s m number (Ok stage) → AdvanceMakes s m number (Ok stage)
    → AdvanceMakes m n number (Ok next) → next ≡ stage → AdvanceMakes s n number (Ok next)
work_again s m n number stage next held left x y same =
    let slots = slots_again s m left.0 stage held left.2 in
    let place : Some y.0 ≡ Some x.0 = sym y.1 ∙ (ap (λ (l : List Slot). retired_slot l number) slots ∙ x.1) in
    let one : y.0 ≡ x.0 = same_Some y.0 x.0 place in
    let second : MakesOnly (IsWork stage x.0) m n = subst (λ (k : ℕ). MakesOnly (IsWork stage k) m n) one (subst (λ (z : Stage). MakesOnly (IsWork z y.0) m n) same y.2) in
    (x.0, x.1, subst (λ (z : Stage). MakesOnly (IsWork z x.0) s n) (sym same) (only_after (IsWork stage x.0) s m n x.2 second))

-- Releases of local references

released_if : (s n : State) (c id : ℕ) (b : Bool) → is_counting s c (local_slot s id) ≡ b
    → Makes s (if b then JoinRef c id ∷ CountDown c ∷ [] else (JoinRef c id ∷ CountDown c ∷ SplitBack c ∷ []) ++ under_events id (local_slot s id)) n → Makes s (release_events s c id) n
released_if s n c id b is makes =
    subst (λ (x : Bool). Makes s (if x then JoinRef c id ∷ CountDown c ∷ [] else (JoinRef c id ∷ CountDown c ∷ SplitBack c ∷ []) ++ under_events id (local_slot s id)) n) (sym is) makes

-- by the CPU's own count
pub released_by_count : (s u n : State) (c id : ℕ) → Holds s → at_rest s.due ≡ true → u ≡ all_seated s → is_counting u c (local_slot u id) ≡ true → Makes u (JoinRef c id ∷ CountDown c ∷ []) n
    → Makes s (seats_and s (release_events s c id)) n
released_by_count s u n c id on rest seated counts makes =
    seated_and s u n (release_events s c id) on rest seated
    (subst (λ (x : State). Makes u (release_events x c id) n) seated (released_if u n c id true counts makes))

-- or by the total
pub released_by_total : (s u v n : State) (c id : ℕ) → Holds s → at_rest s.due ≡ true → u ≡ all_seated s → v ≡ u → is_counting u c (local_slot u id) ≡ false
    → Makes u (JoinRef c id ∷ CountDown c ∷ SplitBack c ∷ []) v → Makes v (under_events id (local_slot v id)) n → Makes s (seats_and s (release_events s c id)) n
released_by_total s u v n c id on rest seated same counts first more =
    let under : Makes v (under_events id (local_slot u id)) n = subst (λ (x : State). Makes v (under_events id (local_slot x id)) n) same more in
    seated_and s u n (release_events s c id) on rest seated
    (subst (λ (x : State). Makes u (release_events x c id) n) seated
    (released_if u n c id false counts (makes_more u v n (JoinRef c id ∷ CountDown c ∷ SplitBack c ∷ []) (under_events id (local_slot u id)) first under)))

-- Lookups

pub find_starts : (s u m : State) (c : ℕ) (key : Key) (r : Reply) → Holds s → at_rest s.due ≡ true → u ≡ all_seated s → narrow_step u (Seek c key.kind key.name) ≡ Some (record { state = m; reply = r })
    → FindMakes s m c key
find_starts s u m c key r on rest seated made = ([], All-nil (IsLoadOf c), seated_and s u m (Seek c key.kind key.name ∷ []) on rest seated (makes_one u m (Seek c key.kind key.name) r made))

-- one load more
pub find_goes_on : (b s t : State) (c : ℕ) (key : Key) (r : Reply) → ((event : Event) × IsLoadOf c event × (narrow_step s event ≡ Some (record { state = t; reply = r }))) → FindMakes b s c key
    → FindMakes b t c key
find_goes_on b s t c key r load makes = (
  makes.0 ++ load.0 ∷ [],
  All-push (IsLoadOf c) makes.0 load.0 makes.1 load.1,
  makes_inside b s t (seats_from b.seated (b.settings.cpus - b.seated)) (Seek c key.kind key.name ∷ makes.0) (load.0 ∷ []) makes.2 (makes_one s t load.0 r load.2),
)

-- Waits

pub looks_wait : (s n : State) (t : ℕ) → MakesOnly (IsLookFor t) s n → MakesOnly IsWaiting s n
looks_wait s n t x = only_wider (IsLookFor t) IsWaiting s n (λ e is. either is (λ seat. inl seat) (λ looks. inr (inr (Some t, looks.0, looks.1)))) x

pub seats_wait : (s u n : State) → Holds s → at_rest s.due ≡ true → u ≡ all_seated s → n ≡ u → MakesOnly IsWaiting s n
seats_wait s u n on rest seated same = subst (λ (x : State). MakesOnly IsWaiting s x) (sym same) (only_wider IsSeat IsWaiting s u (λ e is. inl is) (only_seats s u on rest seated))

-- Detaches

snapshots_on : (s : State) (t k n : ℕ) → Holds s → s.due ≡ Snapshots t 0 → k + n ≡ s.settings.cpus → Makes (snapping s t k) (snapshots_from t k n) (with_all_snapshots s t)
snapshots_on s t k zero on due all =
    let last : k ≡ s.settings.cpus = omega (arith, all) in
    sym (ap (snapping s t) last ∙ snapping_ends s t on)
snapshots_on s t k (suc n) on due all =
    let lt : k < s.settings.cpus = omega (arith, all) in
    let more : after_snapshot (snapping s t k) t k ≡ snapping s t (k + 1) =
    snap_more s t k (due_within s t on due) (omega (arith, on.shape.sections, lt)) (omega (arith, (ranges s.settings on.fit).cpus, lt)) in (
      record { state = after_snapshot (snapping s t k) t k; reply = Word (section_at s k) },
      rw (due_is s t k lt) refl,
      subst (λ (x : State). Makes x (snapshots_from t (k + 1) n) (with_all_snapshots s t)) (sym more) (snapshots_on s t (k + 1) n on due (omega (arith, all))),
    )

pub snapshots_make : (s : State) (t : ℕ) → Holds s → s.due ≡ Snapshots t 0 → get_or s.marks t [] ≡ replicate MOST_CPUS no_mark → Makes s (snapshots_from t 0 s.settings.cpus) (with_all_snapshots s t)
snapshots_make s t on due blank =
    subst (λ (x : State). Makes x (snapshots_from t 0 s.settings.cpus) (with_all_snapshots s t)) (sym (snapping_starts s t on due blank)) (snapshots_on s t 0 s.settings.cpus on due (omega arith))

pub detach_makes : (s u v w n : State) (e : Entry) (c : ℕ) (q r : Reply) → Holds s → at_rest s.due ≡ true → is_idle (all_seated s) c ≡ true → slot_at s.slots e.slot ≡ Live e
    → u ≡ after_unpublish (all_seated s) e.slot e
    → Makes u (snapshots_from e.slot 0 u.settings.cpus) v → narrow_step v (Tell None) ≡ Some (record { state = w; reply = q }) → narrow_step w (Hear (Some c)) ≡ Some (record { state = n; reply = r })
    → Makes s (seats_and s (detach_events s.settings.cpus c e.slot)) n
detach_makes s u v w n e c q r on rest idle live is snaps tells hears =
    let cpus : u.settings.cpus ≡ s.settings.cpus = ap (λ (x : State). x.settings.cpus) is ∙ ap (λ (z : Settings). z.cpus) (settings_by (all_seated s) e.slot e (slot_before s.slots s.next e.slot)) in
    let all : Makes u (snapshots_from e.slot 0 s.settings.cpus) v = subst (λ (k : ℕ). Makes u (snapshots_from e.slot 0 k) v) cpus snaps in
    let last : List Event = snapshots_from e.slot 0 s.settings.cpus ++ Tell None ∷ Hear (Some c) ∷ [] in
    let end : Makes u last n = makes_more u v n (snapshots_from e.slot 0 s.settings.cpus) (Tell None ∷ Hear (Some c) ∷ []) all
    (makes_first v w n (Tell None) q (Hear (Some c) ∷ []) tells (makes_one w n (Hear (Some c)) r hears)) in
    seated_and s (all_seated s) n (detach_events s.settings.cpus c e.slot) on rest refl
    (makes_first (all_seated s) (all_seated s) n (Tell (Some c)) Done (Hear None ∷ Unpublish e.slot ∷ last) (rw idle refl)
    (makes_first (all_seated s) (all_seated s) n (Hear None) Done (Unpublish e.slot ∷ last) (rw rest refl)
    (makes_first (all_seated s) (after_unpublish (all_seated s) e.slot e) n (Unpublish e.slot) Done last (rw (live, rest) refl) (subst (λ (x : State). Makes x last n) is end))))

-- Attaches

counts_on : (s : State) (t k n : ℕ) → Holds s → may_write s t ≡ true → k + n ≡ s.settings.cpus → Makes (with_counts s t k) (count_stores_from t k n) (with_counts s t s.settings.cpus)
counts_on s t k zero on write all =
    let last : s.settings.cpus ≡ k = omega (arith, all) in
    ap (with_counts s t) last
counts_on s t k (suc n) on write all =
    let lt : k < s.settings.cpus = omega (arith, all) in
    let places = count_places s t k on write lt in (
      record { state = after_count_store (with_counts s t k) t k bias; reply = Done },
      count_store_allowed (with_counts s t k) t k bias write lt,
      subst (λ (x : State). Makes x (count_stores_from t (k + 1) n) (with_counts s t s.settings.cpus)) (sym (counts_next s t k places.0 places.1))
          (counts_on s t (k + 1) n on write (omega (arith, all))),
    )

pub counts_make : (s : State) (t : ℕ) → Holds s → may_write s t ≡ true → Makes s (count_stores_from t 0 s.settings.cpus) (with_counts s t s.settings.cpus)
counts_make s t on write =
    subst (λ (x : State). Makes x (count_stores_from t 0 s.settings.cpus) (with_counts s t s.settings.cpus)) (sym (counts_first s t)) (counts_on s t 0 s.settings.cpus on write (omega arith))

-- from the first store in e's slot on: b is the state before it, and `ready` has all words stored
pub linking_makes : (b ready made now : State) (e : Entry) (c : ℕ) → Makes b (prepare_events b e) ready
    → narrow_step ready (Publish e.slot) ≡ Some (record { state = after_publish ready e.slot e; reply = Done }) → made ≡ after_publish ready e.slot e
    → Makes made (Tell None ∷ Hear (Some c) ∷ []) now → Makes b (linking_events b c e) now
linking_makes b ready made now e c stores may links tells =
    makes_more b ready now (prepare_events b e) (Publish e.slot ∷ Tell None ∷ Hear (Some c) ∷ []) stores
    (makes_first ready made now (Publish e.slot) Done (Tell None ∷ Hear (Some c) ∷ [])
    (subst (λ (x : State). narrow_step ready (Publish e.slot) ≡ Some (record { state = x; reply = Done })) (sym links) may) tells)

-- the seats come first, and c tells the keeper of its pass
pub begun_makes : (s room begun now : State) (c : ℕ) (events : List Event) → room ≡ s → Makes room (seats_and room (Tell (Some c) ∷ Hear None ∷ [])) begun → Makes begun events now
    → Makes s (seats_and s (Tell (Some c) ∷ Hear None ∷ events)) now
begun_makes s room begun now c events same begins more =
    makes_inside s begun now (seats_from s.seated (s.settings.cpus - s.seated)) (Tell (Some c) ∷ Hear None ∷ []) events
    (subst (λ (x : State). Makes x (seats_and x (Tell (Some c) ∷ Hear None ∷ [])) begun) same begins) more

-- Local references

pub acquire_makes : (s n : State) (c t : ℕ) (e : Entry) → Holds s → at_rest s.due ≡ true → found_at s c ≡ Some e → c < s.settings.cpus → is_idle (all_seated s) c ≡ true
    → nat_lt (count_in s.nets c (slot_of s.slots e.number)) (bias + s.settings.count_limit) ≡ true → slot_of s.slots e.number ≡ Some t → n ≡ with_count_more s c e.number (Some t)
    → Makes s (seats_and s (CountAdd c ∷ SplitRef c ∷ [])) n
acquire_makes s n c t e on rest found low idle room of is =
    let room_at : nat_lt (count_at s.nets c t) (bias + s.settings.count_limit) ≡ true = subst (λ (o : Option ℕ). nat_lt (count_in s.nets c o) (bias + s.settings.count_limit) ≡ true) of room in
    let m : State = after_count_add (all_seated s) c e.number t in
    let taking : hand_at m c ≡ Taking e.number = get_or-set_same s.hands c (Taking e.number) Empty (omega (arith, low, on.shape.hands)) in
    let empty : hand_at s c ≡ Empty = acting_empty s c idle in
    let back : after_split m c e.number ≡ with_count_more s c e.number (Some t) =
    ap (λ (h : List Hand). record (with_count_more s c e.number (Some t)) { hands = h }) (set_back s.hands c (Taking e.number) Empty Empty empty) in
    seated_and s (all_seated s) n (CountAdd c ∷ SplitRef c ∷ []) on rest refl
    (makes_first (all_seated s) m n (CountAdd c) (Word (count_at s.counts c t)) (SplitRef c ∷ []) (rw (found, of, idle, room_at) refl)
    (record { state = after_split m c e.number; reply = Ref (least_id s.locals) }, rw taking refl, is ∙ sym back))
  where
    acting_empty : (s : State) (c : ℕ) → is_idle (all_seated s) c ≡ true → hand_at s c ≡ Empty
    acting_empty s c idle =
        let rests = and_parts (nat_lt c s.settings.cpus) (is_none (search_at s c) && is_empty (hand_at s c)) idle in
        empty_from (hand_at s c) (and_parts (is_none (search_at s c)) (is_empty (hand_at s c)) rests.1).1
