-- What a step promises: by the seat that steps, on that seat's view alone, exactly one event of the core; and the list of all events, by who made them.
use Rattle.std.specs.Prelude.{◌≡◌, ℕ, ◌==◌, Bool, true, false, if◌then◌else◌, List, [], ◌∷◌, Some, ◌+◌, ◌<◌, ◌≤◌, ◌++◌, sum_by, slice_index, slice_set}
use mathlib.Core.List.{IsPrefix}
use mathlib.Core.Option.{some}
use lib.ListN.{get_elem?}
use Rattle.atomic_table.specs.Table.{State as Table, keeps, stepped}
use Rattle.cpu_words.specs.Types.{Event, Enter, Exit, Hear, Settings, Reply, Done}
use Rattle.protocol.specs.Common.{State, step, standing_of}
use Rattle.cpu_words.specs.declared.view.LogItem.{LogItem}
use Rattle.cpu_words.specs.declared.view.CpuView.{CpuView}
use Rattle.cpu_words.specs.declared.view.KeeperView.{KeeperView}
use Rattle.cpu_words.specs.declared.view.ReferenceView.{ReferenceView}
use Rattle.cpu_words.specs.declared.view.View.{View}
use Rattle.cpu_words.specs.declared.view.View.TheVariants.{Keeper, Cpu, Reference}
use Rattle.cpu_words.specs.Views.{Seated, Shown, cpu_of, keeper_of, reference_of}
use Rattle.cpu_words.specs.Rule.{Good, Ruled, GoesOn, did, number_of_id, reference_to}

-- The list of all events, each with the place among the seats of the one that made it: what of it is a seat's, and how a seat knows it.

-- of what the seats did in order, each by its place among the seats: the part by the seat i
abbrev pub part : ℕ → List (ℕ × LogItem) → List LogItem
part i [] = []
part i (a ∷ rest) = if a.0 == i then a.1 ∷ part i rest else part i rest

-- the list went on as the seat stepped on a word: all that the seat did, which is `log`, is in it
pub record ListGoesOn (old : List (ℕ × LogItem)) (log : List LogItem) (new : List (ℕ × LogItem)) : Type 0 where
  pub grows : IsPrefix old new
  pub seat : ℕ
  pub own : part seat new ≡ log

-- an event that begins or ends a section
abbrev pub is_border : Event → Bool
is_border (Enter c) = true
is_border (Exit c) = true
is_border e = false

-- an event in which a CPU hears the keeper
abbrev pub is_hear : Event → Bool
is_hear (Hear (Some c)) = true
is_hear e = false

-- no event of these is so
abbrev pub HasNone : (Event → Bool) → List LogItem → Type 0
HasNone is [] = Unit {0}
HasNone is (d ∷ ds) = (is d.event ≡ false) × HasNone is ds

-- What a step promises: by the seat that steps, on that seat's view alone, exactly one event of the core.

-- the two views are of one seat
abbrev pub OneSeat : View → View → Type 0
OneSeat (Keeper k) (Keeper l) = (l.settings ≡ k.settings) × (l.noted_pass ≡ k.noted_pass)
OneSeat (Cpu x) (Cpu y) = (y.settings ≡ x.settings) × (y.id ≡ x.id) × (y.noted_pass ≡ x.noted_pass)
OneSeat (Reference v) (Reference w) = w ≡ v
OneSeat v w = ⊥

-- exactly this event of the core was made, with this reply, by the seat that had the view v and has the view w
pub record Makes (e : Event) (r : Reply) (v w : View) : Type 0 where
  pub g : State
  pub after : State
  pub good : Good g
  pub good_after : Good after
  pub before : Shown g v
  pub made : step g e ≡ Some (record { state = after; reply = r })
  pub shown : Shown after w
  pub same : OneSeat v w

-- The seat is cut in two, or takes another one in, and did just these by that: its log goes on with them alone, and all else beside its view stays
pub record SeatRegroups {X : Type 0} (ds : List LogItem) (a b : Seated X) : Type 0 where
  pub table : b.table ≡ a.table
  pub log : b.log ≡ a.log ++ ds
  pub known_log : b.known_log ≡ a.known_log
  pub noted_log : b.noted_log ≡ a.noted_log
  pub teller : b.teller ≡ a.teller
  pub list : b.list ≡ a.list

-- The seat stepped on a word, and did just these: its log goes on with them alone, and so does the list that it knows. Its table, its known log, and the note beside its view with that note's teller
-- stay
pub record SeatGoesOn {X : Type 0} (ds : List LogItem) (a b : Seated X) : Type 0 where
  pub table : b.table ≡ a.table
  pub log : b.log ≡ a.log ++ ds
  pub known_log : b.known_log ≡ a.known_log
  pub noted_log : b.noted_log ≡ a.noted_log
  pub teller : b.teller ≡ a.teller
  pub list : ListGoesOn a.list b.log b.list

-- the same of a seat that made exactly this event of the core, with this reply; `of` is the kind of its view
pub record SeatMakes {X : Type 0} (of : X → View) (e : Event) (r : Reply) (a b : Seated X) : Type 0 where
  pub table : b.table ≡ a.table
  pub event : Makes e r (of a.view) (of b.view)
  pub log : b.log ≡ a.log ++ did e r
  pub known_log : b.known_log ≡ a.known_log
  pub noted_log : b.noted_log ≡ a.noted_log
  pub teller : b.teller ≡ a.teller
  pub list : ListGoesOn a.list b.log b.list

-- A seat that is cut in two, or takes in another, changes no word. In any state of the core that shows the views before, exactly the event
-- is made. The views after are shown, with as many seats of references as the core has live references.

pub record SplitMakes (e : Event) (g : State) (v left right : View) : Type 0 where
  pub after : State
  pub reply : Reply
  pub made : step g e ≡ Some (record { state = after; reply = reply })
  pub good_after : Good after
  pub shown : Shown after left
  pub shown_right : Shown after right
  pub count : (n : ℕ) → reference_to n left + reference_to n right + sum_by (standing_of n) g.locals ≡ reference_to n v + sum_by (standing_of n) after.locals

-- exactly this event of the core is made as the view v is cut in two
abbrev pub SplitsBy : Event → View → View → View → Type 0
SplitsBy e v left right = (g : State) → Good g → Shown g v → SplitMakes e g v left right

-- the id of the reference that is joined is the core's alone; it is one to the entry that its view has
pub record JoinMakes (e : ℕ → Event) (g : State) (v u both : View) : Type 0 where
  pub id : ℕ
  pub names : number_of_id g id ≡ (reference_of u).entry.number
  pub after : State
  pub made : step g (e id) ≡ Some (record { state = after; reply = Done })
  pub good_after : Good after
  pub shown : Shown after both
  pub count : (n : ℕ) → reference_to n both + sum_by (standing_of n) g.locals ≡ reference_to n v + reference_to n u + sum_by (standing_of n) after.locals

-- just such an event of the core is made as the view u, whose references the core has, is put into v
abbrev pub JoinsBy : (ℕ → Event) → View → View → View → Type 0
JoinsBy e v u both = (g : State) → Good g → Shown g v → Shown g u → ((n : ℕ) → reference_to n u ≤ sum_by (standing_of n) g.locals) → JoinMakes e g v u both

-- A seat is cut in two, or takes in another: the run goes on with just these events.

abbrev pub SplitsOn : Settings → ℕ → View → View → View → List LogItem → Type 0
SplitsOn z i v left right ds =
    (s : Table ℕ View) (r : Ruled z s) → get_elem? s.views i ≡ some v → GoesOn z s r ds (record { words = s.words; homes = s.homes; views = slice_set s.views i left ++ right ∷ [] })

abbrev pub JoinsOn : Settings → ℕ → View → ℕ → View → View → View → List LogItem → Type 0
JoinsOn z i v o w both spent ds = (s : Table ℕ View) (r : Ruled z s) → get_elem? s.views i ≡ some v → ¬ (o ≡ i) → get_elem? (slice_set s.views i both) o ≡ some w
    → GoesOn z s r ds (record { words = s.words; homes = s.homes; views = slice_set (slice_set s.views i both) o spent })

-- In any table in which the word becomes f of what it was, the seat has a view after. The rule holds with it, and so does the tale of the
-- word found. For a load or an exchange n is the word found, for a store the word stored. The run goes on with exactly the events of the
-- word found.

abbrev pub Moves : Settings → View → ℕ → (ℕ → ℕ) → (ℕ → List LogItem) → (ℕ → View → Type 0) → Type 0
Moves z v i f ds tells = (s : Table ℕ View) (r : Ruled z s) → (id : ℕ) → get_elem? s.views id ≡ some v → slice_index s.words i < 18446744073709551616
    → (w : View) × GoesOn z s r (ds (slice_index s.words i)) (stepped s i (f (slice_index s.words i)) id [] w keeps) × tells (slice_index s.words i) w

abbrev pub SeatMay : {X : Type 0} → (X → View) → (View → X) → Settings → X → ℕ → (ℕ → ℕ) → (ℕ → List LogItem) → (X → ℕ → X → Type 0) → Type 0
SeatMay as_view of_view z x i f ds tells = Moves z (as_view x) i f ds (λ n w. (w ≡ as_view (of_view w)) × tells x n (of_view w))

abbrev pub CpuMay : Settings → CpuView → ℕ → (ℕ → ℕ) → (ℕ → List LogItem) → (CpuView → ℕ → CpuView → Type 0) → Type 0
CpuMay z x i f ds tells = SeatMay Cpu cpu_of z x i f ds tells

abbrev pub KeeperMay : Settings → KeeperView → ℕ → (ℕ → ℕ) → (ℕ → List LogItem) → (KeeperView → ℕ → KeeperView → Type 0) → Type 0
KeeperMay z k i f ds tells = SeatMay Keeper keeper_of z k i f ds tells

abbrev pub KeeperStores : Settings → KeeperView → ℕ → ℕ → (ℕ → List LogItem) → (KeeperView → ℕ → KeeperView → Type 0) → Type 0
KeeperStores z k i n ds tells = Moves z (Keeper k) i (λ _. n) (λ _. ds n) (λ _ w. (w ≡ Keeper (keeper_of w)) × tells k n (keeper_of w))

abbrev pub ReferenceMay : Settings → ReferenceView → ℕ → (ℕ → ℕ) → (ℕ → List LogItem) → (ReferenceView → ℕ → ReferenceView → Type 0) → Type 0
ReferenceMay z v i f ds tells = SeatMay Reference reference_of z v i f ds tells
