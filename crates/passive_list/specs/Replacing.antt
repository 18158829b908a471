-- An entry takes the place of a live one: what it asks of the keeper, and what changes.
use Rattle.std.specs.Prelude.{ℕ, ◌+◌, Option, ◌≡◌, suc, ◌<◌, ◌≤◌, List, ◌++◌, length, slice_set, IsTrue}
use Rattle.passive_list.specs.Types.{Vacant, Live, Retired, Entry, Republish, Show, Done, Settings, KeeperView, Keeper, LogItem, Hide, Mark}
use Rattle.registry_values.specs.Common.{is_key, key_of, live_count, slot_at}
use Rattle.protocol.specs.Common.{kept_at, keeps_rightly}
use Rattle.protocol.specs.History.{rank_at}
use Rattle.cpu_words.specs.Common.{LeadsBelow, Makes, did, keeper_after_live, IsBefore, keeper_after_republish}
use Rattle.passive_list.specs.declared.keeper.KeptSlot.{KeptSlot}
use Rattle.passive_list.specs.Keepers.{OnKeeper, IsAtRest, RowsAgree, row_at, states_of}
use Rattle.passive_list.specs.Publishing.{AreSnapshots, LogsSnapshots, keeper_after_stores, logged_stores, with_snapshots}

-- what it asks of the keeper's view, its rows and the new entry e: f is the live entry of the slot u
pub record MayReplace (a : Settings) (k : KeeperView) (rows : List KeptSlot) (u : ℕ) (e : Entry) : Type 0 where
  pub at : IsAtRest a k
  -- each live entry came by a change of the history
  pub begun : (t : ℕ) (g : Entry) → slot_at k.slots t ≡ Live g → g.number ≤ length k.history
  pub agree : RowsAgree a k rows
  pub slot : e.slot < a.slots
  pub vacant : slot_at (states_of rows) e.slot ≡ Vacant
  pub f : Entry
  pub live : slot_at (states_of rows) u ≡ Live f
  pub alike : key_of e ≡ key_of f
  pub name : IsTrue (is_key e.rec.name)
  pub keeps : IsTrue (keeps_rightly (kept_at k.keeps e.slot) e.rec.kind)
  pub room : length k.history + live_count (states_of rows) + 2 ≤ a.change_limit
  pub number : e.number ≡ suc (length k.history)

-- The keeper's view, step by step

-- e's words are stored, with the link v, and the slot u is hidden
abbrev pub keeper_after_hide : KeeperView → ℕ → Entry → ℕ → KeeperView
keeper_after_hide k u e v = keeper_after_live (keeper_after_stores k e v) u 0

-- and e stands where f stood, before which p is
abbrev pub keeper_after_place : KeeperView → ℕ → Entry → Entry → ℕ → Option ℕ → KeeperView
keeper_after_place k u f e v p = keeper_after_republish (keeper_after_hide k u e v) e.slot u e f p

-- and the snapshots of all CPUs are taken for f
abbrev pub keeper_after_snapshots : KeeperView → ℕ → Entry → Entry → ℕ → Option ℕ → List Mark → KeeperView
keeper_after_snapshots k u f e v p marks = with_snapshots (keeper_after_place k u f e v p) u marks

-- exactly that, if the link leads where f's does, and p is the slot before f: e's words were stored, f was hidden, the event made, the snapshots taken, and then e shown
pub record HasReplaced (k : KeeperView) (u : ℕ) (f e : Entry) (l : KeeperView) : Type 0 where
  pub before : Option ℕ
  pub is_before : IsBefore (rank_at k.history) k.slots (rank_at k.history f.number) before
  pub link : ℕ
  pub leads : LeadsBelow (rank_at k.history) k.slots (rank_at k.history f.number) link
  pub hidden : Makes (Hide u) Done (Keeper (keeper_after_stores k e link)) (Keeper (keeper_after_hide k u e link))
  pub made : Makes (Republish e.slot u) Done (Keeper (keeper_after_hide k u e link)) (Keeper (keeper_after_place k u f e link before))
  pub marks : List Mark
  pub snapshots : AreSnapshots k.settings.cpus marks
  pub shown : Makes (Show e.slot) Done (Keeper (keeper_after_snapshots k u f e link before marks)) (Keeper l)
  pub view : l ≡ keeper_after_live (keeper_after_snapshots k u f e link before marks) e.slot e.number

pub record HasReplacedIn (a : OnKeeper) (u : ℕ) (f e : Entry) (b : OnKeeper) : Type 0 where
  pub entry : HasReplaced a.view u f e b.view
  pub slots : b.slots ≡ slice_set (slice_set a.slots e.slot (Live e)) u (Retired f)

-- The rows: e is live in its slot, with the rank r

abbrev pub rows_taken : List KeptSlot → Entry → ℕ → List KeptSlot
rows_taken rows e r = slice_set rows e.slot (record (row_at rows e.slot) { state = Live e; rank = r })

-- in the place of the slot u, whose entry f is retired
abbrev pub rows_replaced : List KeptSlot → ℕ → Entry → Entry → List KeptSlot
rows_replaced rows u f e = slice_set (rows_taken rows e (row_at rows u).rank) u (record (row_at (rows_taken rows e (row_at rows u).rank) u) { state = Retired f })

-- The keeper's log: these are all events of a replacement, in this order, and the link leads where that of the slot's live entry does.
pub record LogsReplace (k : KeeperView) (u : ℕ) (e : Entry) (old new : List LogItem) : Type 0 where
  pub f : Entry
  pub live : slot_at k.slots u ≡ Live f
  pub link : ℕ
  pub leads : LeadsBelow (rank_at k.history) k.slots (rank_at k.history f.number) link
  pub taken : List LogItem
  pub snapshots : LogsSnapshots u k.settings.cpus ((logged_stores k.settings.cpus e link old ++ did (Hide u) Done) ++ did (Republish e.slot u) Done) taken
  pub log : new ≡ taken ++ did (Show e.slot) Done
