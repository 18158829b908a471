-- The keeper: how its plain data agree with what its seat knows, and what its log says of it.
use Rattle.std.specs.Prelude.{◌≡◌, ℕ, ◌+◌, ◌*◌, ◌<◌, ◌≤◌, List, length, map, replicate, slice_index_or, None, IsTrue, unwrap_or, ◌++◌}
use Rattle.std.specs.List.{All}
use Rattle.atomic_table.specs.Seated.{TableId}
use Rattle.passive_list.specs.Types.{Mark, Settings, Slot, Vacant, Rest, KeeperView, LogItem, Change, Entry, Live, Retired, Keeper}
use Rattle.registry_values.specs.Common.{are_fit, live_count, no_mark, slot_at, bias}
use Rattle.protocol.specs.Common.{AreRows, mark_at, total_at, kept_at}
use Rattle.protocol.specs.History.{rank_at}
use Rattle.cpu_words.specs.Common.{Named, IsShown, changes_in, occupant, occupant_of, IsSnapped, AreMarksOf, AreSlotsOf, IsShownAfter, WordsGrow, keeper_with_note}
use Rattle.passive_list.specs.declared.keeper.KeeperRows.{KeeperRows}
use Rattle.passive_list.specs.declared.keeper.KeptSlot.{KeptSlot}

-- the keeper, to a contract: what its seat knows, the slots as it has them, and what it did
pub record OnKeeper : Type 0 where
  pub view : KeeperView
  pub slots : List Slot
  pub log : List LogItem

-- the `Keeper`, which names its own table: that table and its settings, and the keeper
pub record OnPlainKeeper : Type 0 where
  pub words : Named
  pub keeper : OnKeeper

-- what is past the rows
abbrev pub no_row : KeptSlot
no_row = record { state = Vacant; total = None; keeps = None; rank = 0 }

abbrev pub row_at : List KeptSlot → ℕ → KeptSlot
row_at rows t = slice_index_or rows t no_row

abbrev pub state_of : KeptSlot → Slot
state_of r = r.state

abbrev pub states_of : List KeptSlot → List Slot
states_of rows = map state_of rows

-- the rows of the live entries have their ranks
abbrev pub AreRanksOf : (ℕ → ℕ) → List KeptSlot → Type 0
AreRanksOf ranks rows = (t : ℕ) (e : Entry) → (row_at rows t).state ≡ Live e → (row_at rows t).rank ≡ ranks e.number

-- the total of a slot, by its row: None is the bias
abbrev pub total_or_bias : KeptSlot → ℕ
total_or_bias r = unwrap_or r.total bias

pub record RowAgrees (k : KeeperView) (t : ℕ) (r : KeptSlot) : Type 0 where
  pub state : slot_at k.slots t ≡ r.state
  pub total : total_or_bias r ≡ total_at k.totals t
  pub keeps : r.keeps ≡ kept_at k.keeps t
  -- nothing is counted in a vacant slot's total
  pub unused : r.state ≡ Vacant → total_or_bias r ≡ bias
  pub rank : (e : Entry) → r.state ≡ Live e → r.rank ≡ rank_at k.history e.number

-- each slot has its place in each list
pub record AreSized (n : ℕ) (k : KeeperView) : Type 0 where
  pub slots : length k.slots ≡ n
  pub marks : length k.marks ≡ n
  pub mark_rows : AreRows k.marks
  pub keeps : length k.keeps ≡ n
  pub next : length k.next ≡ n
  pub rows : length k.rows ≡ n
  pub totals : length k.totals ≡ n
  pub counts : length k.counts ≡ n
  pub count_rows : AreRows k.counts

-- of the view alone: it is at rest, and its history has room for the detach of each live entry
pub record IsAtRest (a : Settings) (k : KeeperView) : Type 0 where
  pub settings : k.settings ≡ a
  pub fit : IsTrue (are_fit a)
  pub rest : k.due ≡ Rest
  pub seated : k.seated ≡ a.cpus
  pub sized : AreSized a.slots k
  pub room : length k.history + live_count k.slots ≤ a.change_limit

-- of the rows: each says what the view says of its slot
pub record RowsAgree (a : Settings) (k : KeeperView) (rows : List KeptSlot) : Type 0 where
  pub size : length rows ≡ a.slots
  pub each : (t : ℕ) → t < a.slots → RowAgrees k t (row_at rows t)

-- of the marks: a slot's are side by side, and each is the view's
pub record MarksAgree (a : Settings) (k : KeeperView) (marks : List Mark) : Type 0 where
  pub size : length marks ≡ a.slots * a.cpus
  pub each : (t c : ℕ) → t < a.slots → c < a.cpus → slice_index_or marks (t * a.cpus + c) no_mark ≡ mark_at k.marks t c

-- the rows of a keeper at the start: all slots are vacant, and nothing is noted
pub record AreRowsOfNew (a : Settings) (rows : KeeperRows) : Type 0 where
  pub slots : rows.slots.items ≡ replicate a.slots no_row
  pub marks : rows.marks.items ≡ replicate (a.slots * a.cpus) no_mark

pub record IsOurKeeper (a : Settings) (k : KeeperView) (rs : List KeptSlot) (n : ℕ) : Type 0 where
  pub view : IsAtRest a k
  pub is_shown : IsShown k
  pub changes : n ≡ length k.history
  pub rows : RowsAgree a k rs

-- the keeper of this table with these settings, by what its seat knows, its rows and its log
abbrev pub on_keeper : TableId → Settings → KeeperView → List KeptSlot → List LogItem → OnPlainKeeper
on_keeper table a k rows log = record { words = record { table = table; settings = a }; keeper = record { view = k; slots = states_of rows; log = log } }

-- of the keeper, as contracts see it: these are its rows, and they agree with what its seat knows
pub record HasRows (x : OnPlainKeeper) (rows : List KeptSlot) : Type 0 where
  pub are : on_keeper x.words.table x.words.settings x.keeper.view rows x.keeper.log ≡ x
  pub agree : IsOurKeeper x.words.settings x.keeper.view rows (length x.keeper.view.history)

-- How a seat's log goes on, and what the keeper's log says of the keeper, as it is told whenever the keeper hears.

-- the log went on, and so is each item since
pub record GoesOnBy (P : LogItem → Type 0) (old new : List LogItem) : Type 0 where
  pub since : List LogItem
  pub are : new ≡ old ++ since
  pub only : All P since

-- The keeper is at rest. The history is as long as the log says. The marks, the slots and their entries, as the keeper has them, are in the
-- log. Each retired entry was snapped on each CPU, and the words that were found grow.
pub record HasOwnLog (z : Settings) (a : OnKeeper) : Type 0 where
  pub settings : a.view.settings ≡ z
  pub rest : a.view.due ≡ Rest
  pub size : length a.slots ≡ z.slots
  pub changes : length a.view.history ≡ changes_in a.log
  pub marks : AreMarksOf a.log a.view.marks
  pub slots : AreSlotsOf z.cpus a.log a.slots
  pub occupants : (t : ℕ) → occupant t a.log ≡ occupant_of (slot_at a.slots t)
  pub snapped : (t c : ℕ) (e : Entry) → slot_at a.slots t ≡ Retired e → c < z.cpus → (w : ℕ) × IsSnapped t c w a.log
  pub grow : WordsGrow a.log
  -- with another note beside it, some state shows the view, and in it the keeper had done exactly this
  pub counts : (h : List Change) × IsShownAfter a.log (Keeper (keeper_with_note a.view h))
