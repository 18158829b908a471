-- How far count words and totals go, and what the invariant says of the ranges that the code's arithmetic and places need.
use Rattle.std.proofs.Common.{◌≡◌, ℕ, ◌+◌, ◌*◌, ◌^◌, ◌<◌, ◌≤◌, inr, List, [], length, get_or, take, Option, Bool, true, refl, ap, ◌∙◌, arith, cond, Some, sym}
use Rattle.std.specs.List.{list_all}
use Rattle.std.proofs.lemmas.Bool.{cases_lt, eqb-true, eq-eqb}
use Rattle.protocol.specs.Types.{Entry, Settings, MOST_CPUS, Slot, Retired, Mark}
use Rattle.registry_values.specs.Common.{bias, are_collected, slot_at, slot_of}
use Rattle.protocol.specs.Common.{Hand, LocalPlace, Due, Rest, Adding, Subtracting, mark_at, count_at, total_at, is_bias, IsIn, IsCounting, CountsHold, held_at, addition_due_at, is_adding_at, greatest_limit, Empty, Giving, Back, Search, State, hand_at, found_at, kept_at, search_at, is_drained, Holds, SlotWithin}
use Rattle.protocol.proofs.counts.Sums.{total_floor as floor_of, total_ceiling as ceiling_of, word_floor as word_floor_of, all_collected as all_of, one_self, lifted_within}
use Rattle.protocol.proofs.counts.Counts.{CountsFit, are_words, is_counting, moved}
use Rattle.protocol.proofs.keeps.CountKeeps.{fit_of, hand_within, held_counting}
use Rattle.protocol.proofs.keeps.Drivers.{kept_found}
use Rattle.protocol.proofs.keeps.Marking.{list_all_within}
use Rattle.protocol.proofs.keeps.MarkKeeps.{is_drained_tells}
use Rattle.protocol.proofs.Either.{either}
use Rattle.protocol.proofs.Occupied.{slot_has, in_within}
use Rattle.protocol.proofs.keeps.References.{giving_holds, back_holds, due_adding, due_subtracting}
use Rattle.protocol.proofs.keeps.Searching.{search_walks, place_within}

module _ {z : Settings} {slots : List Slot} {marks : List (List Mark)} {counts nets : List (List ℕ)} {totals : List ℕ} {hands : List Hand} {keeps : List (Option ℕ)} {due : Due} {locals : List LocalPlace}
    (on : CountsHold z slots marks counts nets totals hands keeps due locals) where
  pub total_ceiling : (t : ℕ) (e : Entry) → IsIn e (slot_at slots t) → total_at totals t + addition_due_at t due ≤ bias * (1 + is_adding_at t due) + MOST_CPUS * greatest_limit
  total_ceiling t e is =
      let ceiling = ceiling_of _ _ _ (addition_due_at t due) (is_adding_at t due) (on.balance t e is) in omega (arith, ceiling)

  -- once all words are collected, the total says what is held
  pub all_collected : (t : ℕ) (e : Entry) → due ≡ Rest → slot_at slots t ≡ Retired e → ((c : ℕ) → c < z.cpus → (mark_at marks t c).collected ≡ true)
      → total_at totals t ≡ bias + held_at locals hands keeps due e.number t
  all_collected t e rest gone each =
      all_of (get_or counts t []) (total_at totals t) _ (λ c. either (cases_lt c z.cpus) (λ lt. on.emptied c t e gone (each c lt)) (λ ge. on.beyond c t ge))
      (moved (on.balance t e (inr gone)) refl refl refl (sym (ap (addition_due_at t) rest)) (sym (ap (is_adding_at t) rest)))

  -- and is the bias exactly where nothing is
  pub none_held_at_bias : (t : ℕ) (e : Entry) → due ≡ Rest → slot_at slots t ≡ Retired e → ((c : ℕ) → c < z.cpus → (mark_at marks t c).collected ≡ true) → total_at totals t ≡ bias
      → held_at locals hands keeps due e.number t ≡ 0
  none_held_at_bias t e rest gone each is = omega (arith, all_collected t e rest gone each, is)

module _ {z : Settings} {slots : List Slot} {marks : List (List Mark)} {counts nets : List (List ℕ)} {totals : List ℕ} {hands : List Hand} {keeps : List (Option ℕ)} {due : Due} {locals : List LocalPlace}
    (on : CountsHold z slots marks counts nets totals hands keeps due locals) (fit : CountsFit z slots marks counts nets totals hands keeps) where
  -- a word that counts is near the bias
  pub word_floor : (c t : ℕ) (e : Entry) → c < z.cpus → IsIn e (slot_at slots t) → IsCounting slots marks c t
      → bias + held_at locals hands keeps due e.number t ≤ count_at counts c t + MOST_CPUS * greatest_limit
  word_floor c t e lt is counting =
      let floor = word_floor_of _ _ _ _ _ c (are_words on fit t e is) (omega (arith, lt, fit.cpu_limit)) (on.counted c t lt counting).1 (on.balance t e is) in omega (arith, floor)

  pub word_ceiling : (c t : ℕ) (e : Entry) → IsIn e (slot_at slots t) → count_at counts c t ≤ bias + greatest_limit
  word_ceiling c t e is = omega (arith, (are_words on fit t e is).1 c)

  -- a total, with what is to be added
  pub total_floor : (t : ℕ) (e : Entry) → IsIn e (slot_at slots t)
      → bias * (1 + is_adding_at t due) + held_at locals hands keeps due e.number t ≤ total_at totals t + addition_due_at t due + MOST_CPUS * greatest_limit
  total_floor t e is =
      let floor = floor_of _ _ _ (addition_due_at t due) (is_adding_at t due) (are_words on fit t e is) (on.balance t e is) in omega (arith, floor)

  -- what is being added is added with nothing lost
  pub adding_fits : (t old : ℕ) (e : Entry) → due ≡ Adding t old → IsIn e (slot_at slots t) → (bias ≤ total_at totals t + old) × (total_at totals t + old < 2 ^ 64)
  adding_fits t old e was is =
      let floor = total_floor t e is in
      let ceiling = total_ceiling on t e is in
      let one : is_adding_at t due ≡ 1 = ap (is_adding_at t) was ∙ one_self t t refl in
      let word : addition_due_at t due ≡ old = ap (addition_due_at t) was ∙ ap (λ (b : Bool). cond b old 0) (eq-eqb t t refl) in
      (omega (arith, floor, one, word), omega (arith, ceiling, one, word))

  -- nothing is being added
  pub total_range : (t : ℕ) (e : Entry) → addition_due_at t due ≡ 0 → is_adding_at t due ≡ 0 → IsIn e (slot_at slots t)
      → (bias + held_at locals hands keeps due e.number t ≤ total_at totals t + MOST_CPUS * greatest_limit) × (total_at totals t ≤ bias + MOST_CPUS * greatest_limit)
  total_range t e nothing none is =
      (omega (arith, total_floor t e is, none, nothing), omega (arith, total_ceiling on t e is, none, nothing))

  pub total_at_rest : (t : ℕ) (e : Entry) → due ≡ Rest → IsIn e (slot_at slots t)
      → (bias + held_at locals hands keeps due e.number t ≤ total_at totals t + MOST_CPUS * greatest_limit) × (total_at totals t ≤ bias + MOST_CPUS * greatest_limit)
  total_at_rest t e rest is = total_range t e (ap (addition_due_at t) rest) (ap (is_adding_at t) rest) is

  -- a total is above 0 before a reference is subtracted
  pub total_at_subtraction : (t u : ℕ) (e : Entry) → due ≡ Subtracting u → IsIn e (slot_at slots t) → (0 < total_at totals t) × (total_at totals t ≤ bias + MOST_CPUS * greatest_limit)
  total_at_subtraction t u e was is =
      let range = total_range t e (ap (addition_due_at t) was) (ap (is_adding_at t) was) is in (omega (arith, range.0), range.1)

module _ {z : Settings} {slots : List Slot} {marks : List (List Mark)} {counts nets : List (List ℕ)} {totals : List ℕ} {hands : List Hand} {keeps : List (Option ℕ)}
    (fit : CountsFit z slots marks counts nets totals hands keeps) where
  pub collected_at : (t c : ℕ) → t < length slots → c < z.cpus → are_collected z.cpus (get_or marks t []) ≡ true → (mark_at marks t c).collected ≡ true
  collected_at t c lt below all = grind (arith, list_all_within)

  pub bias_at : (t c : ℕ) → t < length slots → c < z.cpus → list_all is_bias (take z.cpus (get_or counts t [])) ≡ true → count_at counts c t ≡ bias
  bias_at t c lt below all = grind (arith, eqb-true, list_all_within)

-- What the invariant says of the ranges that the code's arithmetic and places need, where an event is allowed.

-- what is given up has its place, its CPU and its slot
pub giving_within : (s : State) (c n id : ℕ) → Holds s → hand_at s c ≡ Giving n id → (c < s.settings.cpus) × (id < length s.locals)
giving_within s c n id on hand = (
  hand_within s c on (λ empty. let q : Giving n id ≡ Empty = sym hand ∙ empty in cc),
  lifted_within s.locals id c (giving_holds s.settings.cpus s.slots s.hands s.due s.locals c n id hand on.references).1,
)

pub back_within : (s : State) (c n id : ℕ) → Holds s → hand_at s c ≡ Back n id → (c < s.settings.cpus) × (id < length s.locals)
back_within s c n id on hand = (
  hand_within s c on (λ empty. let q : Back n id ≡ Empty = sym hand ∙ empty in cc),
  lifted_within s.locals id c (back_holds s.settings.cpus s.slots s.hands s.due s.locals c n id hand on.references).1,
)

-- a word that counts isn't 0
pub counting_positive : (s : State) (c n id t : ℕ) → Holds s → hand_at s c ≡ Giving n id → slot_of s.slots n ≡ Some t → count_at s.counts c t ≡ count_at s.nets c t → 0 < count_at s.counts c t
counting_positive s c n id t on hand of same =
    let has = slot_has s.slots n t of in
    let lt = (giving_within s c n id on hand).0 in
    (on.balance.counted c t lt (is_counting on.balance c t has.1.0 lt has.1.1 same)).1

-- a word that may be counted up has room
pub counted_room : (s : State) (c t : ℕ) (e : Entry) → Holds s → found_at s c ≡ Some e → slot_of s.slots e.number ≡ Some t → count_at s.counts c t < 2 ^ 63
counted_room s c t e on found of = omega (arith, word_ceiling on.balance (fit_of s on) c t e (held_counting s c t e on found of).0)

pub adding_range : (s : State) (t old : ℕ) → Holds s → s.due ≡ Adding t old → (bias ≤ total_at s.totals t + old) × (total_at s.totals t + old < 2 ^ 64)
adding_range s t old on due =
    let gone = due_adding s.settings.cpus s.slots s.hands s.due s.locals t old due on.references in
    adding_fits on.balance (fit_of s on) t old gone.0 due (inr gone.1)

pub adding_within : (s : State) (t old : ℕ) → Holds s → s.due ≡ Adding t old → t < s.settings.slots
adding_within s t old on due =
    let gone = due_adding s.settings.cpus s.slots s.hands s.due s.locals t old due on.references in
    omega (arith, on.shape.slots, in_within s.slots t gone.0 (inr gone.1))

pub subtracting_range : (s : State) (t : ℕ) → Holds s → s.due ≡ Subtracting t → (t < s.settings.slots) × (0 < total_at s.totals t)
subtracting_range s t on due =
    let gone = due_subtracting s.settings.cpus s.slots s.hands s.due s.locals t due on.references in (
      omega (arith, on.shape.slots, in_within s.slots t gone.0 (inr gone.1)),
      omega (arith, (total_at_subtraction on.balance (fit_of s on) t t gone.0 due (inr gone.1)).0),
    )

-- the total of the driver whose reference is given up
pub driver_positive : (s : State) (t d u : ℕ) → Holds s → kept_at s.keeps t ≡ Some d → slot_of s.slots d ≡ Some u → is_drained s t ≡ true → 0 < total_at s.totals u
driver_positive s t d u on keeps of drained =
    let told = is_drained_tells s t on drained in
    let driver = kept_found s.history s.slots s.keeps t d u told.1.0 on.slots on.kept_drivers (inr told.1.1) keeps of in
    omega (arith, (total_at_rest on.balance (fit_of s on) u driver.0 told.0 driver.1).0)

-- the slot of the place that a search is at
pub search_within : (s : State) (c : ℕ) (q : Search) → Holds s → search_at s c ≡ Some q → SlotWithin q.place (length s.slots)
search_within s c q on is = place_within s c q.start (get_or s.seen c 0) q.key q.place on (search_walks s c q on is) (on.searches c q is).stands
