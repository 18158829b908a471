-- What an answer says of its parts, and where two counts are refused alike.
use Rattle.std.proofs.Common.{◌≡◌, ⊎_elim, ℕ, ◌<◌, ◌≤◌, nat_lt, Bool, true, false, Option, Some, None, Result, Ok, Err, if◌then◌else◌, refl, sym, ap, ◌∙◌}
use Rattle.std.specs.Prelude.{IsErr, IsErrAnd}
use Rattle.std.proofs.lemmas.Bool.{cases_lt, le-ltb, lt-ltb}
use Rattle.registry_values.specs.Common.{Room, Entry, Record, Refusal, NameTaken, NoSlot, HistoryFull, Inside, LocalFull, NeedsDriver, has_room, next_entry, entry_in, given_entry, attach_answer}
use Rattle.registry_values.specs.Common.{why_uncounted}

-- what is so where an entry is given
pub record IsGiven (taken : Bool) (fit : Option ℕ) (room : Room) (rec : Record) (e : Entry) : Type 0 where
  pub free : taken ≡ false
  pub place : fit ≡ Some e.slot
  pub fits : has_room room ≡ true
  pub entry : e ≡ next_entry room.changes rec e.slot

room_if : (b : Bool) (e f : Entry) → ◌≡◌ {A = Result Entry Refusal} (if b then Ok f else Err HistoryFull) (Ok e) → (b ≡ true) × (e ≡ f)
room_if true e f is = (refl, let q : ◌≡◌ {A = Result Entry Refusal} (Ok f) (Ok e) = is in cc)
room_if false e f is = absurd (let q : ◌≡◌ {A = Result Entry Refusal} (Err HistoryFull) (Ok e) = is in cc)

place_if : (fit : Option ℕ) (room : Room) (rec : Record) (e : Entry) → entry_in fit room rec ≡ Ok e → IsGiven false fit room rec e
place_if None room rec e is = absurd (let q : ◌≡◌ {A = Result Entry Refusal} (Err NoSlot) (Ok e) = is in cc)
place_if (Some t) room rec e is =
    let told = room_if (has_room room) e (next_entry room.changes rec t) is in
    let at : e.slot ≡ t = ap (λ (x : Entry). x.slot) told.1 in
    record { free = refl; place = ap Some (sym at); fits = told.0; entry = told.1 ∙ ap (next_entry room.changes rec) (sym at) }

pub given_tells : (taken : Bool) (fit : Option ℕ) (room : Room) (rec : Record) (e : Entry) → given_entry taken fit room rec ≡ Ok e → IsGiven taken fit room rec e
given_tells true fit room rec e is = absurd (let q : ◌≡◌ {A = Result Entry Refusal} (Err NameTaken) (Ok e) = is in cc)
given_tells false fit room rec e is = place_if fit room rec e is

-- the caller is outside, the entry fits the call, and it is the one given
pub attach_tells : (inside unfit : Bool) (given : Result Entry Refusal) (e : Entry) → attach_answer inside unfit given ≡ Ok e → (inside ≡ false) × (unfit ≡ false) × (given ≡ Ok e)
attach_tells true unfit given e is = absurd (let q : ◌≡◌ {A = Result Entry Refusal} (Err Inside) (Ok e) = is in cc)
attach_tells false true given e is = absurd (let q : ◌≡◌ {A = Result Entry Refusal} (Err NeedsDriver) (Ok e) = is in cc)
attach_tells false false given e is = (refl, refl, is)

-- a refusal that a `?` hands on is the one that came
pub handed_on : {X : Type 0} (result : Result X Refusal) (f : Refusal) → IsErr result → IsErrAnd result (λ r. r ≡ f) → result ≡ Err f
handed_on (Ok x) f is and = absurd (let q : ◌≡◌ {A = Bool} false true = is in cc)
handed_on (Err r) f is and = ap (λ (g : Refusal). Err g) and

pub same_Ok : {X : Type 0} (x y : X) → ◌≡◌ {A = Result X Refusal} (Ok x) (Ok y) → x ≡ y
same_Ok x y is = cc

pub same_Err : {X : Type 0} (f g : Refusal) → ◌≡◌ {A = Result X Refusal} (Err f) (Err g) → f ≡ g
same_Err f g is = cc

-- two tests; each passes where the other does
pub same_test : (a b c d : ℕ) → (a < b → c < d) → (b ≤ a → d ≤ c) → nat_lt a b ≡ nat_lt c d
same_test a b c d less more = ⊎_elim
    (λ (lt : a < b). lt-ltb a b lt ∙ sym (lt-ltb c d (less lt)))
    (λ (ge : b ≤ a). le-ltb a b ge ∙ sym (le-ltb c d (more ge)))
    (cases_lt a b)

-- so two counts are refused alike
pub uncounted_alike : (a b c d : ℕ) → (a < b → c < d) → (b ≤ a → d ≤ c) → why_uncounted a b ≡ why_uncounted c d
uncounted_alike a b c d less more = ap (λ (t : Bool). if t then None else Some LocalFull) (same_test a b c d less more)
