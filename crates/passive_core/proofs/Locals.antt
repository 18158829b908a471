-- What the commands on local references rest on.
use Rattle.std.proofs.Common.{◌≡◌, ℕ, zero, suc, ◌+◌, ◌-◌, ◌<◌, ◌⊎◌, inl, inr, List, [], ◌∷◌, ◌++◌, length, length-set, get_or, set, cond, position, Option, Some, None, IsSome, Result, Ok, Err, OnOk, OnErr, Bool, true, false, ◌&&◌, nat_lt, nat_eq, refl, sym, ap, subst, ◌∙◌, arith, sum_by, get_or-set_same, ne_eqb}
use Rattle.std.specs.Prelude.{if◌then◌else◌, is_none}
use Rattle.std.specs.List.{position_or_len}
use Rattle.std.proofs.lemmas.List.{get_or_append_left, get_or_past, get_or_push, length_push, set-get_or}
use Rattle.std.proofs.lemmas.List.Sums.{position_or_len_is, sum_by_push}
use Rattle.std.proofs.lemmas.List.Quantifiers.{position-Some}
use Rattle.std.proofs.lemmas.List.Folds.{position_or_len_push}
use Rattle.std.proofs.lemmas.Bool.{and_parts, cases_eq, cases_lt, eq-eqb, lt-ltb, le-ltb, false_from_ne_true}
use Rattle.passive_core.specs.Types.{Entry, CountAdd, SplitRef, JoinRef, CountDown, SplitBack, JoinKeeper, TotalSub, Reply, Done, Word, Ref, Collected, Hand, Empty, Taking, Giving, Back, LocalPlace, Free, Standing, Lifted}
use Rattle.protocol.specs.Common.{State, count_at, found_at, hand_at, local_at, mark_at, row_at, search_at, total_at, at_rest, is_empty, Outcome, Holds, standing_of}
use Rattle.protocol.specs.Events
use Rattle.registry_values.specs.Common.{bias, no_mark, is_collected, is_some_collected, slot_at, is_retired, slot_of}
use Rattle.passive_core.specs.Common.{all_seated, may_act, count_in, free_added, is_counting, local_slot, slot_if, with_count_less, with_count_more, with_room}
use Rattle.protocol.proofs.keeps.SectionKeeps.{empty_from}
use Rattle.protocol.proofs.counts.Counts.{counting_cases, held_stays}
use Rattle.registry_values.proofs.Fit.{ranges}
use Rattle.protocol.proofs.Cells.{entry_attached, occupied_slot, position_fails, any_within}
use Rattle.protocol.proofs.Occupied.{slot_has}
use Rattle.passive_core.proofs.Passives.{ShowsRecord, both, found_slot, is_some, made, may_still}
use Rattle.protocol.proofs.keeps.References.{references_places, standing_tells}
use Rattle.protocol.proofs.Either.{either}

-- Lists.

pub set_twice : {X : Type 0} (xs : List X) (i : ℕ) (x y : X) → set (set xs i x) i y ≡ set xs i y
set_twice [] i x y = refl
set_twice (z ∷ xs) zero x y = refl
set_twice (z ∷ xs) (suc i) x y = ap (λ (ys : List _). z ∷ ys) (set_twice xs i x y)

-- a place that is written and then written back
pub set_back : {X : Type 0} (xs : List X) (i : ℕ) (x y d : X) → get_or xs i d ≡ y → set (set xs i x) i y ≡ xs
set_back xs i x y d is = set_twice xs i x y ∙ (ap (set xs i) (sym is) ∙ set-get_or xs i d)

-- a value that isn't there
pub none_from : {X : Type 0} (o : Option X) → ((x : X) → o ≡ Some x → ⊥) → o ≡ None
none_from None off = refl
none_from (Some x) off = absurd (off x refl)

-- A list of places with a free one added.

end_of : (locals : List LocalPlace) → position Events.is_free locals ≡ None → position_or_len Events.is_free locals ≡ length locals
end_of locals none = position_or_len_is Events.is_free locals (length locals) Free (omega arith)
    (λ k lt. false_from_ne_true (Events.is_free (get_or locals k Free)) (λ passes. position_fails Events.is_free locals k Free none lt passes))
    (λ (lt : length locals < length locals). absurd (omega (arith, lt)))

free_end : (locals : List LocalPlace) → position Events.is_free locals ≡ None → position Events.is_free (locals ++ Free ∷ []) ≡ Some (length locals)
free_end locals none =
    let same : nat_eq (position_or_len Events.is_free locals) (length locals) ≡ true = eq-eqb _ _ (end_of locals none) in
    let at : position_or_len Events.is_free (locals ++ Free ∷ []) ≡ length locals =
    omega (arith, position_or_len_push Events.is_free locals Free ∙ ap (λ (b : Bool). cond b (length locals + 0) (position_or_len Events.is_free locals)) same) in
    let lt : nat_lt (position_or_len Events.is_free (locals ++ Free ∷ [])) (length (locals ++ Free ∷ [])) ≡ true = lt-ltb _ _ (omega (arith, at, length_push locals Free)) in
    ap (λ (b : Bool). cond b (Some (position_or_len Events.is_free (locals ++ Free ∷ []))) None) lt ∙ ap Some at

set_end : {X : Type 0} (xs : List X) (x y : X) → set (xs ++ x ∷ []) (length xs) y ≡ xs ++ y ∷ []
set_end [] x y = refl
set_end (z ∷ xs) x y = ap (λ (ys : List _). z ∷ ys) (set_end xs x y)

pub least_added : (locals : List LocalPlace) (o : Option ℕ) → position Events.is_free locals ≡ o
    → (Events.least_id (free_added locals o) ≡ Events.least_id locals) × (Events.least_id (free_added locals o) < length (free_added locals o))
least_added locals None none =
    let is : Events.least_id (locals ++ Free ∷ []) ≡ length locals = ap (Events.id_if (locals ++ Free ∷ [])) (free_end locals none) in
    (is ∙ sym (ap (Events.id_if locals) none), omega (arith, is, length_push locals Free))
least_added locals (Some id) some = (refl, omega (arith, ap (Events.id_if locals) some, (position-Some Events.is_free locals id Free some).0))

-- a reference that is put there stands where it would have without
pub placed : (locals : List LocalPlace) (o : Option ℕ) (p : LocalPlace) → position Events.is_free locals ≡ o
    → Events.with_local (free_added locals o) (Events.least_id (free_added locals o)) p ≡ Events.with_local locals (Events.least_id locals) p
placed locals None p none =
    let is : Events.least_id (locals ++ Free ∷ []) ≡ length locals = ap (Events.id_if (locals ++ Free ∷ [])) (free_end locals none) in
    let was : Events.least_id locals ≡ length locals = ap (Events.id_if locals) none in
    let in_ : nat_lt (length locals) (length (locals ++ Free ∷ [])) ≡ true = lt-ltb _ _ (omega (arith, length_push locals Free)) in
    let out : nat_lt (length locals) (length locals) ≡ false = le-ltb _ _ (omega arith) in
    ap (λ (k : ℕ). Events.with_local (locals ++ Free ∷ []) k p) is
    ∙ (ap (λ (b : Bool). cond b (set (locals ++ Free ∷ []) (length locals) p) ((locals ++ Free ∷ []) ++ p ∷ [])) in_
    ∙ (set_end locals Free p
    ∙ (sym (ap (λ (b : Bool). cond b (set locals (length locals) p) (locals ++ p ∷ [])) out) ∙ ap (λ (k : ℕ). Events.with_local locals k p) (sym was))))
placed locals (Some id) p some = refl

-- each place shows what it did
pub added_at : (locals : List LocalPlace) (o : Option ℕ) (id : ℕ) → local_at (free_added locals o) id ≡ local_at locals id
added_at locals None id = either (cases_lt id (length locals))
    (λ lt. get_or_append_left locals (Free ∷ []) Free id lt)
    (λ ge. either (cases_eq id (length locals))
    (λ same. get_or_push locals Free Free id (sym same) ∙ sym (get_or_past locals id Free ge))
    (λ off. get_or_past (locals ++ Free ∷ []) id Free (omega (arith, ge, off, length_push locals Free)) ∙ sym (get_or_past locals id Free ge)))
added_at locals (Some id) j = refl

added_sum : (n : ℕ) (locals : List LocalPlace) (o : Option ℕ) → sum_by (standing_of n) (free_added locals o) ≡ sum_by (standing_of n) locals
added_sum n locals None = omega (arith, sum_by_push (standing_of n) locals Free)
added_sum n locals (Some id) = refl

pub room_holds : (s : State) → Holds s → Holds (with_room s)
room_holds s on =
    let o = position Events.is_free s.locals in
    assumption (
      held_stays on.balance s.hands s.keeps (free_added s.locals o) (λ n. omega (arith, added_sum n s.locals o)),
      references_places s.settings.cpus s.slots s.hands s.due s.due s.locals (free_added s.locals o)
          (λ id n at. on.references.standing id n (sym (added_at s.locals o id) ∙ at))
          (λ d id at. added_at s.locals o id ∙ at)
          on.references.due_at on.references,
    )

-- What a live reference is to, and whether a CPU's word counts it.

pub live_slot : (s : State) (id n : ℕ) → Holds s → Events.number_standing (local_at s.locals id) ≡ Some n → (t : ℕ) × (slot_of s.slots n ≡ Some t)
live_slot s id n on live = occupied_slot s.history s.slots n on.slots (on.references.standing id n (standing_tells (local_at s.locals id) n live))

pub slot_is : (s : State) (id n t : ℕ) → Events.number_standing (local_at s.locals id) ≡ Some n → slot_of s.slots n ≡ Some t → local_slot s id ≡ Some t
slot_is s id n t live of = ap (slot_if s.slots) live ∙ of

-- it counts and is the net count, or was collected
pub record Counts (s : State) (c t : ℕ) : Type 0 where
  pub some : nat_lt 0 (count_at s.counts c t) ≡ true
  pub same : nat_eq (count_at s.counts c t) (count_at s.nets c t) ≡ true

pub record Collected_at (s : State) (c t : ℕ) : Type 0 where
  pub none : nat_lt 0 (count_at s.counts c t) ≡ false
  pub other : nat_eq (count_at s.counts c t) (count_at s.nets c t) ≡ false
  pub retired : is_retired (slot_at s.slots t) ≡ true
  pub collected : (mark_at s.marks t c).collected ≡ true

pub count_cases : (s : State) (c n t : ℕ) → Holds s → slot_of s.slots n ≡ Some t → c < s.settings.cpus → Counts s c t ⊎ Collected_at s c t
count_cases s c n t on of low =
    let has = slot_has s.slots n t of in
    let e = has.1.0 in
    either (counting_cases s.slots s.marks c t e has.1.1)
    (λ counting.
    let is = on.balance.counted c t low counting in
    inl (record { some = lt-ltb 0 (count_at s.counts c t) is.1; same = eq-eqb (count_at s.counts c t) (count_at s.nets c t) is.0 }))
    (λ gone.
    let zero_ = on.balance.emptied c t e gone.0 gone.1 in
    let used = on.balance.used c t e low (inr gone.0) in
    inr (assumption (
      le-ltb 0 (count_at s.counts c t) (omega (arith, zero_)),
      ne_eqb (count_at s.counts c t) (count_at s.nets c t) (λ same. absurd (omega (arith, same, zero_, used))),
      ap is_retired gone.0,
    )))

-- The events of a release by the CPU's own count.

joins : (s : State) (c id n : ℕ) → Events.number_standing (local_at s.locals id) ≡ Some n → Events.is_idle s c ≡ true → Events.narrow_step s (JoinRef c id) ≡ Events.some_outcome (Events.after_hand s c (Giving n id) id (Lifted c)) Done
joins s c id n live idle = rw (live, idle) refl

-- the state once the reference is in the hand
abbrev pub lifted : State → ℕ → ℕ → ℕ → State
lifted s c n id = Events.after_hand s c (Giving n id) id (Lifted c)

pub lifts : (s v : State) (c n id : ℕ) (r : Reply) → Events.number_standing (local_at s.locals id) ≡ Some n → Events.is_idle s c ≡ true → Events.narrow_step s (JoinRef c id) ≡ Some (record { state = v; reply = r })
    → v ≡ lifted s c n id
lifts s v c n id r live idle was = made s (Events.narrow_step s (JoinRef c id)) _ v r (joins s c id n live idle) was

abbrev pub exchanged : State → ℕ → ℕ → ℕ → ℕ → Bool → Option Outcome
exchanged s c n id t counts =
    if counts then Events.some_outcome (Events.after_count_down (lifted s c n id) c t id) (Word (count_at s.counts c t)) else Events.some_outcome (Events.after_collected (lifted s c n id) c n id) Collected

downs : (s : State) (c n id t : ℕ) → Holds s → slot_of s.slots n ≡ Some t → c < s.settings.cpus → Events.narrow_step (lifted s c n id) (CountDown c) ≡ exchanged s c n id t (nat_lt 0 (count_at s.counts c t))
downs s c n id t on of low =
    let hand : hand_at (lifted s c n id) c ≡ Giving n id = get_or-set_same s.hands c (Giving n id) Empty (omega (arith, low, on.shape.hands)) in
    either (count_cases s c n t on of low) (λ is. rw (hand, of, is.some, is.same) refl) (λ is. rw (hand, of, is.none, is.other) refl)

some_exchanged : (s : State) (c n id t : ℕ) (b : Bool) → IsSome (exchanged s c n id t b)
some_exchanged s c n id t true = refl
some_exchanged s c n id t false = refl

pub down_allowed : (s v : State) (c n id t : ℕ) → Holds s → slot_of s.slots n ≡ Some t → c < s.settings.cpus → v ≡ lifted s c n id → IsSome (Events.narrow_step v (CountDown c))
down_allowed s v c n id t on of low is = subst (λ (x : State). IsSome (Events.narrow_step x (CountDown c))) (sym is)
    (is_some (Events.narrow_step (lifted s c n id) (CountDown c)) (exchanged s c n id t (nat_lt 0 (count_at s.counts c t))) (downs s c n id t on of low)
    (some_exchanged s c n id t (nat_lt 0 (count_at s.counts c t))))

abbrev reply_of : Option Outcome → Reply
reply_of None = Done
reply_of (Some o) = o.reply

abbrev id_in : Reply → ℕ
id_in (Ref id) = id
id_in _ = 0

abbrev ref_of : Option Outcome → ℕ
ref_of o = id_in (reply_of o)

fell : (s w : State) (c n id t : ℕ) (r : Reply) (b : Bool) → exchanged s c n id t b ≡ Some (record { state = w; reply = r }) → r ≡ Collected
    → (b ≡ false) × (w ≡ Events.after_collected (lifted s c n id) c n id)
fell s w c n id t r true was is = absurd (let q : Word (count_at s.counts c t) ≡ Collected = ap reply_of was ∙ is in cc)
fell s w c n id t r false was is = (refl, ap (Events.state_after s) (sym was))

went : (s w : State) (c n id t : ℕ) (r : Reply) (b : Bool) → exchanged s c n id t b ≡ Some (record { state = w; reply = r }) → (r ≡ Collected → ⊥)
    → (b ≡ true) × (w ≡ Events.after_count_down (lifted s c n id) c t id)
went s w c n id t r true was off = (refl, ap (Events.state_after s) (sym was))
went s w c n id t r false was off = absurd (off (sym (ap reply_of was)))

pub down_fell : (s v w : State) (c n id t : ℕ) (r : Reply) → Holds s → slot_of s.slots n ≡ Some t → c < s.settings.cpus → v ≡ lifted s c n id
    → Events.narrow_step v (CountDown c) ≡ Some (record { state = w; reply = r }) → r ≡ Collected
    → (nat_lt 0 (count_at s.counts c t) ≡ false) × (w ≡ Events.after_collected (lifted s c n id) c n id)
down_fell s v w c n id t r on of low is was =
    fell s w c n id t r (nat_lt 0 (count_at s.counts c t)) (sym (downs s c n id t on of low) ∙ subst (λ (x : State). Events.narrow_step x (CountDown c) ≡ Some (record { state = w; reply = r })) is was)

pub down_went : (s v w : State) (c n id t : ℕ) (r : Reply) → Holds s → slot_of s.slots n ≡ Some t → c < s.settings.cpus → v ≡ lifted s c n id
    → Events.narrow_step v (CountDown c) ≡ Some (record { state = w; reply = r }) → (r ≡ Collected → ⊥)
    → (nat_lt 0 (count_at s.counts c t) ≡ true) × (w ≡ Events.after_count_down (lifted s c n id) c t id)
down_went s v w c n id t r on of low is was =
    went s w c n id t r (nat_lt 0 (count_at s.counts c t)) (sym (downs s c n id t on of low) ∙ subst (λ (x : State). Events.narrow_step x (CountDown c) ≡ Some (record { state = w; reply = r })) is was)

-- the count is one less, and the hand is empty again
pub counted_down : (s : State) (c n id t : ℕ) → hand_at s c ≡ Empty → Events.after_count_down (lifted s c n id) c t id ≡ with_count_less s c id (Some t)
counted_down s c n id t hand =
    let hands = set_back s.hands c (Giving n id) Empty Empty hand in
    let locals = set_twice s.locals id (Lifted c) Free in
    ap (λ (h : List Hand). record (Events.after_count s c t (count_at s.counts c t - 1) (count_at s.nets c t - 1) Empty) { hands = h; locals = set (set s.locals id (Lifted c)) id Free }) hands
    ∙ ap (λ (l : List LocalPlace). record (Events.after_count s c t (count_at s.counts c t - 1) (count_at s.nets c t - 1) Empty) { hands = s.hands; locals = l }) locals

backs : (s : State) (c n id : ℕ) → c < length s.hands → Events.narrow_step (Events.after_collected (lifted s c n id) c n id) (SplitBack c)
    ≡ Events.some_outcome (Events.after_hand (Events.after_collected (lifted s c n id) c n id) c Empty id (Standing n)) (Ref id)
backs s c n id low =
    let hand : hand_at (Events.after_collected (lifted s c n id) c n id) c ≡ Back n id =
    get_or-set_same (set s.hands c (Giving n id)) c (Back n id) Empty (omega (arith, low, length-set s.hands c (Giving n id))) in
    rw hand refl

-- all is as it was before the reference was joined
back_same : (s : State) (c n id : ℕ) → hand_at s c ≡ Empty → local_at s.locals id ≡ Standing n → Events.after_hand (Events.after_collected (lifted s c n id) c n id) c Empty id (Standing n) ≡ s
back_same s c n id hand at =
    let hands = ap (λ (h : List Hand). set h c Empty) (set_twice s.hands c (Giving n id) (Back n id)) ∙ set_back s.hands c (Back n id) Empty Empty hand in
    let locals = set_back s.locals id (Lifted c) (Standing n) Free at in
    ap (λ (h : List Hand). record s { hands = h; locals = set (set s.locals id (Lifted c)) id (Standing n) }) hands
    ∙ ap (λ (l : List LocalPlace). record s { locals = l }) locals

pub back_allowed : (s w : State) (c n id : ℕ) → Holds s → c < s.settings.cpus → w ≡ Events.after_collected (lifted s c n id) c n id → IsSome (Events.narrow_step w (SplitBack c))
back_allowed s w c n id on low is = subst (λ (x : State). IsSome (Events.narrow_step x (SplitBack c))) (sym is)
    (is_some (Events.narrow_step (Events.after_collected (lifted s c n id) c n id) (SplitBack c)) _ (backs s c n id (omega (arith, low, on.shape.hands))) refl)

pub gone_back : (s w x : State) (c n id : ℕ) (r : Reply) → Holds s → c < s.settings.cpus → hand_at s c ≡ Empty → local_at s.locals id ≡ Standing n → w ≡ Events.after_collected (lifted s c n id) c n id
    → Events.narrow_step w (SplitBack c) ≡ Some (record { state = x; reply = r }) → x ≡ s
gone_back s w x c n id r on low hand at is was =
    made s (Events.narrow_step (Events.after_collected (lifted s c n id) c n id) (SplitBack c)) _ x r (backs s c n id (omega (arith, low, on.shape.hands)))
    (subst (λ (y : State). Events.narrow_step y (SplitBack c) ≡ Some (record { state = x; reply = r })) is was)
    ∙ back_same s c n id hand at

-- The events of a release under the interlock.

some_collected : (s : State) (c t : ℕ) → Holds s → c < s.settings.cpus → t < length s.slots → (mark_at s.marks t c).collected ≡ true → is_some_collected s.settings.cpus (get_or s.marks t []) ≡ true
some_collected s c t on low tl done =
    let tm : t < length s.marks = omega (arith, tl, on.shape.slots, on.shape.marks) in
    any_within is_collected s.settings.cpus (get_or s.marks t []) no_mark c low (omega (arith, low, on.shape.mark_rows t tm, (ranges s.settings on.fit).cpus)) done

keeper_joins : (s : State) (id n t : ℕ) → Events.number_standing (local_at s.locals id) ≡ Some n → slot_of s.slots n ≡ Some t → Events.may_join_keeper s t ≡ true
    → Events.narrow_step s (JoinKeeper id) ≡ Events.some_outcome (Events.after_join_keeper s id t) Done
keeper_joins s id n t live of may = rw (live, of, may) refl

pub joined_keeper : (s : State) (c id n t : ℕ) → Holds s → c < s.settings.cpus → at_rest s.due ≡ true → Events.number_standing (local_at s.locals id) ≡ Some n → slot_of s.slots n ≡ Some t
    → is_counting s c (local_slot s id) ≡ false → Events.narrow_step s (JoinKeeper id) ≡ Events.some_outcome (Events.after_join_keeper s id t) Done
joined_keeper s c id n t on low rest live of off =
    let none : nat_lt 0 (count_at s.counts c t) ≡ false = ap (is_counting s c) (sym (slot_is s id n t live of)) ∙ off in
    either (count_cases s c n t on of low)
    (λ is. absurd (let q : ◌≡◌ {A = Bool} true false = sym is.some ∙ none in cc))
    (λ is.
    keeper_joins s id n t live of (both (is_retired (slot_at s.slots t)) (at_rest s.due && is_some_collected s.settings.cpus (get_or s.marks t [])) is.retired
    (both (at_rest s.due) (is_some_collected s.settings.cpus (get_or s.marks t [])) rest (some_collected s c t on low (slot_has s.slots n t of).0 is.collected))))

totals_sub : (s : State) (id t : ℕ) → Events.narrow_step (Events.after_join_keeper s id t) (TotalSub t) ≡ Events.some_outcome (Events.after_total (Events.after_join_keeper s id t) t (total_at s.totals t - 1)) Done
totals_sub s id t = let same : nat_eq t t ≡ true = eq-eqb t t refl in rw same refl

pub sub_allowed : (s v : State) (id t : ℕ) → v ≡ Events.after_join_keeper s id t → IsSome (Events.narrow_step v (TotalSub t))
sub_allowed s v id t is = subst (λ (x : State). IsSome (Events.narrow_step x (TotalSub t))) (sym is) (is_some (Events.narrow_step (Events.after_join_keeper s id t) (TotalSub t)) _ (totals_sub s id t) refl)

-- The events of an acquire.

pub local_shows : (s : State) (id n : ℕ) → Holds s → Events.number_standing (local_at s.locals id) ≡ Some n → ShowsRecord s n (Events.load_local s id)
local_shows s id n on live =
    let t = live_slot s id n on live in
    let has = slot_has s.slots n t.0 t.1 in
    let e = has.1.0 in
    let row = on.rows t.0 e has.1.1 in
    record {
      entry = e;
      attached = (entry_attached s.history s.slots e t.0 on.slots has.1.1).0;
      numbered = has.1.2;
      loads = λ k few. loads_at s id n t.0 k e live t.1 few row.0;
    }
  where
    loads_at : (s : State) (id n t k : ℕ) (e : Entry) → Events.number_standing (local_at s.locals id) ≡ Some n → slot_of s.slots n ≡ Some t → nat_lt k 5 ≡ true → row_at s.rows t ≡ Events.words_of e
        → Events.load_local s id k ≡ Events.some_outcome s (Word (Events.word (Events.words_of e) k))
    loads_at s id n t k e live of few row = rw (live, of, few, row) refl

counts_up : (s : State) (c t : ℕ) (e : Entry) → found_at s c ≡ Some e → slot_of s.slots e.number ≡ Some t → Events.is_idle s c ≡ true → nat_lt (count_at s.nets c t) (bias + s.settings.count_limit) ≡ true
    → Events.narrow_step s (CountAdd c) ≡ Events.some_outcome (Events.after_count_add s c e.number t) (Word (count_at s.counts c t))
counts_up s c t e found of idle room = rw (found, of, idle, room) refl

-- the state as the first event is made: there is a free place, and all CPUs have their seats
abbrev pub prepared : State → State
prepared s = all_seated (with_room s)

room_at : (s : State) (c n t : ℕ) → slot_of s.slots n ≡ Some t → nat_lt (count_in s.nets c (slot_of s.slots n)) (bias + s.settings.count_limit) ≡ true
    → nat_lt (count_at s.nets c t) (bias + s.settings.count_limit) ≡ true
room_at s c n t of room = subst (λ (o : Option ℕ). nat_lt (count_in s.nets c o) (bias + s.settings.count_limit) ≡ true) of room

pub count_allowed : (s u : State) (c : ℕ) (e : Entry) → Holds s → found_at s c ≡ Some e → u ≡ prepared s → Events.is_idle u c ≡ true
    → nat_lt (count_in s.nets c (slot_of s.slots e.number)) (bias + s.settings.count_limit) ≡ true → IsSome (Events.narrow_step u (CountAdd c))
count_allowed s u c e on found is idle room =
    let t = found_slot s c e on found in
    subst (λ (x : State). IsSome (Events.narrow_step x (CountAdd c))) (sym is)
    (is_some (Events.narrow_step (prepared s) (CountAdd c)) _ (counts_up (prepared s) c t.0 e found t.1 (subst (λ (x : State). Events.is_idle x c ≡ true) is idle) (room_at s c e.number t.0 t.1 room)) refl)

pub record Taken (s v : State) (c n t : ℕ) : Type 0 where
  pub slot : slot_of s.slots n ≡ Some t
  pub state : v ≡ Events.after_count_add (prepared s) c n t
  pub hand : hand_at v c ≡ Taking n
  pub room : Events.least_id v.locals < length v.locals

pub takes : (s u v : State) (c : ℕ) (e : Entry) (r : Reply) → Holds s → found_at s c ≡ Some e → c < s.settings.cpus → u ≡ prepared s → Events.is_idle u c ≡ true
    → nat_lt (count_in s.nets c (slot_of s.slots e.number)) (bias + s.settings.count_limit) ≡ true
    → Events.narrow_step u (CountAdd c) ≡ Some (record { state = v; reply = r }) → (t : ℕ) × Taken s v c e.number t
takes s u v c e r on found low is idle room was =
    let t = found_slot s c e on found in
    let state = made s (Events.narrow_step (prepared s) (CountAdd c)) _ v r (counts_up (prepared s) c t.0 e found t.1 (subst (λ (x : State). Events.is_idle x c ≡ true) is idle) (room_at s c e.number t.0 t.1 room))
    (subst (λ (x : State). Events.narrow_step x (CountAdd c) ≡ Some (record { state = v; reply = r })) is was) in (
      t.0,
      assumption (
        ap (λ (x : State). hand_at x c) state ∙ get_or-set_same s.hands c (Taking e.number) Empty (omega (arith, low, on.shape.hands)),
        subst (λ (x : State). Events.least_id x.locals < length x.locals) (sym state) (least_added s.locals (position Events.is_free s.locals) refl).1,
      ),
    )

-- the reference has its place, and the hand is empty again
pub split : (s v w : State) (c n t id : ℕ) → hand_at s c ≡ Empty → Taken s v c n t → Events.narrow_step v (SplitRef c) ≡ Some (record { state = w; reply = Ref id })
    → (w ≡ with_count_more s c n (Some t)) × (id ≡ Events.least_id s.locals)
split s v w c n t id hand taken_ was =
    let is : Events.split_ref v c (Taking n) ≡ Some (record { state = w; reply = Ref id }) = subst (λ (h : Hand). Events.split_ref v c h ≡ Some (record { state = w; reply = Ref id })) taken_.hand was in
    let done : Events.some_outcome (Events.after_split (Events.after_count_add (prepared s) c n t) c n) (Ref (Events.least_id (with_room s).locals)) ≡ Some (record { state = w; reply = Ref id })
    = subst (λ (x : State). Events.some_outcome (Events.after_split x c n) (Ref (Events.least_id x.locals)) ≡ Some (record { state = w; reply = Ref id })) taken_.state is in
    let o = position Events.is_free s.locals in
    let hands = set_back s.hands c (Taking n) Empty Empty hand in
    let locals = placed s.locals o (Standing n) refl in (
      ap (Events.state_after s) (sym done)
          ∙ (ap (λ (h : List Hand). record (with_count_more s c n (Some t)) { hands = h; locals = Events.with_local (with_room s).locals (Events.least_id (with_room s).locals) (Standing n) }) hands
          ∙ ap (λ (l : List LocalPlace). record (with_count_more s c n (Some t)) { locals = l }) locals),
      ap ref_of (sym done) ∙ (least_added s.locals o refl).0,
    )

-- other CPUs, and this one, may act as before
pub more_count_ready : (s : State) (c n : ℕ) (o : Option ℕ) → Holds s → (d : ℕ) → may_act s d ≡ true → may_act (with_count_more s c n o) d ≡ true
more_count_ready s c n None on d may = may_still s on d may
more_count_ready s c n (Some t) on d may = may_still s on d may

pub less_count_ready : (u : State) (c id : ℕ) (o : Option ℕ) (d : ℕ) → may_act u d ≡ true → may_act (with_count_less u c id o) d ≡ true
less_count_ready u c id None d may = may
less_count_ready u c id (Some t) d may = may

-- the list of places after a growth that may be refused
pub grown_holds : {X Y : Type 0} (s : State) (locals : List LocalPlace) (result : Result X Y) → Holds s → position Events.is_free s.locals ≡ None → OnOk result (locals ≡ s.locals ++ Free ∷ [])
    → OnErr result (locals ≡ s.locals) → Holds (record s { locals = locals })
grown_holds s locals (Ok x) on none ok err = subst (λ (l : List LocalPlace). Holds (record s { locals = l })) (ap (free_added s.locals) none ∙ sym ok) (room_holds s on)
grown_holds s locals (Err e) on none ok err = subst (λ (l : List LocalPlace). Holds (record s { locals = l })) (sym err) on

pub grown_room : {X Y : Type 0} (old locals : List LocalPlace) (result : Result X Y) → position Events.is_free old ≡ None → OnOk result (locals ≡ old ++ Free ∷ [])
    → OnOk result (Events.least_id locals < length locals)
grown_room old locals (Ok x) none ok = subst (λ (l : List LocalPlace). Events.least_id l < length l) (sym ok) (least_added old None none).1
grown_room old locals (Err e) none ok = tt

-- what an acquire has done
pub record Acquired (s w : State) (c n t id : ℕ) : Type 0 where
  pub slot : slot_of s.slots n ≡ Some t
  pub state : w ≡ with_count_more s c n (Some t)
  pub least : id ≡ Events.least_id s.locals

pub acquires : (s u v w : State) (c id : ℕ) (e : Entry) (r : Reply) → Holds s → found_at s c ≡ Some e → c < s.settings.cpus → u ≡ prepared s → Events.is_idle u c ≡ true
    → nat_lt (count_in s.nets c (slot_of s.slots e.number)) (bias + s.settings.count_limit) ≡ true
    → Events.narrow_step u (CountAdd c) ≡ Some (record { state = v; reply = r }) → Events.narrow_step v (SplitRef c) ≡ Some (record { state = w; reply = Ref id }) → (t : ℕ) × Acquired s w c e.number t id
acquires s u v w c id e r on found low is idle room first second =
    let took = takes s u v c e r on found low is idle room first in
    let rests = and_parts (nat_lt c s.settings.cpus) (is_none (search_at s c) && is_empty (hand_at s c)) (subst (λ (x : State). Events.is_idle x c ≡ true) is idle) in
    let empty = empty_from (hand_at s c) (and_parts (is_none (search_at s c)) (is_empty (hand_at s c)) rests.1).1 in
    let done = split s v w c e.number took.0 id empty took.1 second in
    (took.0, record { slot = took.1.slot; state = done.0; least = done.1 })
