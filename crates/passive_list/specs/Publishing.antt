-- An entry is published or retired: what changes of the keeper, and which live entries there are beside it.
use Rattle.std.specs.Prelude.{ℕ, ◌+◌, Bool, true, ◌&&◌, nat_lt, if◌then◌else◌, Option, Some, None, ◌≡◌, zero, suc, ◌<◌, ◌≤◌, List, [], ◌++◌, length, slice_index_or, slice_set, IsTrue, false, ◌⊎◌, replicate}
use Rattle.passive_list.specs.Types.{Vacant, Live, Retired, Entry, Attach, StoreSlot, StoreNext, Publish, Show, Done, Settings, RecordWords, KeeperView, Keeper, LogItem, Hide, Unpublish, Snapshot, Word, Mark, Rest, MOST_CPUS}
use Rattle.registry_values.specs.Common.{bias, is_live, key_of, is_taken, live_count, slot_at, is_key, no_mark}
use Rattle.protocol.specs.Common.{with_biases, kept_at, keeps_rightly, words_of, after_change, snapshot_mark}
use Rattle.cpu_words.specs.Common.{LeadsBelow, Makes, did, keeper_after_live, IsBefore, keeper_after_unpublish}
use Rattle.passive_list.specs.declared.links.At.{At}
use Rattle.passive_list.specs.declared.keeper.KeptSlot.{KeptSlot}
use Rattle.passive_list.specs.Keepers.{OnKeeper, IsAtRest, RowsAgree, states_of}
use Rattle.protocol.specs.History.{rank_at}

-- The live entries by rank, slot by slot: the newest below a rank, and the oldest above it.

abbrev pub is_newer : ℕ → Option At → Bool
is_newer n None = true
is_newer n (Some at) = nat_lt at.rank n

-- the newest below the rank n, as r is the row of the slot t
abbrev pub newer_of : ℕ → ℕ → Option At → KeptSlot → Option At
newer_of n t best r = if is_live r.state && (nat_lt r.rank n && is_newer r.rank best) then Some (record { slot = t; rank = r.rank }) else best

abbrev pub is_older : ℕ → Option At → Bool
is_older n None = true
is_older n (Some at) = nat_lt n at.rank

-- the oldest above the rank n, as r is the row of the slot t
abbrev pub older_of : ℕ → ℕ → Option At → KeptSlot → Option At
older_of n t best r = if is_live r.state && (nat_lt n r.rank && is_older r.rank best) then Some (record { slot = t; rank = r.rank }) else best

-- 0 for the end, else the slot plus 1
abbrev pub link_to : Option At → ℕ
link_to None = 0
link_to (Some at) = at.slot + 1

abbrev pub place_of : Option At → Option ℕ
place_of None = None
place_of (Some at) = Some at.slot

-- An entry is published: what changes of the keeper.

-- Publish

-- the record words of the slot t are r
abbrev pub with_row : KeeperView → ℕ → RecordWords → KeeperView
with_row k t r = record k { rows = slice_set k.rows t r }

-- the count words of the first c CPUs for the slot t count no reference
abbrev pub with_counts : KeeperView → ℕ → ℕ → KeeperView
with_counts k t c = record k { counts = slice_set k.counts t (with_biases c (slice_index_or k.counts t [])) }

-- the words of e's slot are stored: its record, its counts, and the link v
abbrev pub keeper_after_stores : KeeperView → Entry → ℕ → KeeperView
keeper_after_stores k e v = record (with_counts (with_row k e.slot (words_of e)) e.slot k.settings.cpus) { next = slice_set k.next e.slot v }

-- e is live in its slot, with its words stored and the link v, and the head leads to it; the history ends with its attach
abbrev pub keeper_after_publish : KeeperView → Entry → ℕ → KeeperView
keeper_after_publish k e v = record k {
  head = e.slot + 1;
  history = after_change k.history (Attach e);
  slots = slice_set k.slots e.slot (Live e);
  next = slice_set k.next e.slot v;
  rows = slice_set k.rows e.slot (words_of e);
  counts = slice_set k.counts e.slot (with_biases k.settings.cpus (slice_index_or k.counts e.slot []));
}

-- what publishing asks of the keeper's view, its rows and the entry
pub record MayAttach (a : Settings) (k : KeeperView) (rows : List KeptSlot) (e : Entry) : Type 0 where
  pub at : IsAtRest a k
  pub agree : RowsAgree a k rows
  pub slot : e.slot < a.slots
  pub vacant : slot_at (states_of rows) e.slot ≡ Vacant
  pub keeps : IsTrue (keeps_rightly (kept_at k.keeps e.slot) e.rec.kind)
  pub name : IsTrue (is_key e.rec.name)
  pub free : is_taken (key_of e) (states_of rows) ≡ false
  pub room : length k.history + live_count (states_of rows) + 2 ≤ a.change_limit
  pub number : e.number ≡ suc (length k.history)

-- exactly that, if the link leads to the newest live entry there was: all words were stored, then the event made, and then the entry shown
pub record HasEntry (k : KeeperView) (e : Entry) (l : KeeperView) : Type 0 where
  pub link : ℕ
  pub leads : LeadsBelow (rank_at k.history) k.slots (suc (length k.history)) link
  pub made : Makes (Publish e.slot) Done (Keeper (keeper_after_stores k e link)) (Keeper (keeper_after_publish k e link))
  pub shown : Makes (Show e.slot) Done (Keeper (keeper_after_publish k e link)) (Keeper l)
  pub view : l ≡ keeper_after_live (keeper_after_publish k e link) e.slot e.number

pub record HasAttached (a : OnKeeper) (e : Entry) (b : OnKeeper) : Type 0 where
  pub entry : HasEntry a.view e b.view
  pub slots : b.slots ≡ slice_set a.slots e.slot (Live e)

-- The keeper's log, by what was stored

-- the words of e's record, one store each
abbrev pub logged_row : Entry → List LogItem → List LogItem
logged_row e log = (((((log ++ did (StoreSlot e.slot 0 (words_of e).number) Done) ++ did (StoreSlot e.slot 1 (words_of e).kind) Done) ++ did (StoreSlot e.slot 2 (words_of e).high) Done)
    ++ did (StoreSlot e.slot 3 (words_of e).low) Done) ++ did (StoreSlot e.slot 4 (words_of e).value) Done)

-- the count words of the first c CPUs for the slot t: no reference
abbrev pub logged_counts : ℕ → ℕ → List LogItem → List LogItem
logged_counts t zero log = log
logged_counts t (suc c) log = logged_counts t c log ++ did (StoreSlot t (5 + c) bias) Done

-- all words of the slot: record, counts and link
abbrev pub logged_stores : ℕ → Entry → ℕ → List LogItem → List LogItem
logged_stores cpus e link log = logged_counts e.slot cpus (logged_row e log) ++ did (StoreNext e.slot link) Done

-- then the head and the live word: these are all events of an attach, in this order, and the link leads to the newest entry that was live before
pub record LogsAttach (k : KeeperView) (e : Entry) (old new : List LogItem) : Type 0 where
  pub link : ℕ
  pub leads : LeadsBelow (rank_at k.history) k.slots (suc (length k.history)) link
  pub log : new ≡ (logged_stores k.settings.cpus e link old ++ did (Publish e.slot) Done) ++ did (Show e.slot) Done

-- An entry is retired: what changes of the keeper.

-- the slot's marks are none, and it has a place for them
pub record AreFresh (k : KeeperView) (t : ℕ) : Type 0 where
  pub place : t < length k.marks
  pub marks : slice_index_or k.marks t [] ≡ replicate MOST_CPUS no_mark

-- the marks of the first n CPUs are their snapshots
pub record AreSnapshots (n : ℕ) (marks : List Mark) : Type 0 where
  pub size : length marks ≡ MOST_CPUS
  pub each : (c : ℕ) → c < n → (w : ℕ) × (slice_index_or marks c no_mark ≡ snapshot_mark w)

-- of a list of marks, the n from a place on are the first n of the row, and all others are as they were
pub record AreWritten (from n : ℕ) (row old new : List Mark) : Type 0 where
  pub size : length new ≡ length old
  pub here : (c : ℕ) → c < n → slice_index_or new (from + c) no_mark ≡ slice_index_or row c no_mark
  pub others : (p : ℕ) → (p < from) ⊎ (from + n ≤ p) → slice_index_or new p no_mark ≡ slice_index_or old p no_mark

-- the slot t has these marks, and the keeper is at rest
abbrev pub with_snapshots : KeeperView → ℕ → List Mark → KeeperView
with_snapshots k t marks = record k { marks = slice_set k.marks t marks; due = Rest }

-- the entry e of the slot t is hidden, then unlinked and retired, and its marks are the snapshots that were taken
pub record HasDetached (a : OnKeeper) (t : ℕ) (e : Entry) (b : OnKeeper) : Type 0 where
  pub before : Option ℕ
  pub is_before : IsBefore (rank_at a.view.history) a.view.slots (rank_at a.view.history e.number) before
  pub link : ℕ
  pub leads : LeadsBelow (rank_at a.view.history) a.view.slots (rank_at a.view.history e.number) link
  pub hidden : Makes (Hide t) Done (Keeper a.view) (Keeper (keeper_after_live a.view t 0))
  pub made : Makes (Unpublish t) Done (Keeper (keeper_after_live a.view t 0)) (Keeper (keeper_after_unpublish (keeper_after_live a.view t 0) t e before link))
  pub marks : List Mark
  pub snapshots : AreSnapshots a.view.settings.cpus marks
  pub view : b.view ≡ with_snapshots (keeper_after_unpublish (keeper_after_live a.view t 0) t e before link) t marks
  pub slots : b.slots ≡ slice_set a.slots t (Retired e)

-- The keeper's log: the section words of the first c CPUs were taken for the slot t. What they were the marks have, by `AreMarksOf`.
abbrev pub LogsSnapshots : ℕ → ℕ → List LogItem → List LogItem → Type 0
LogsSnapshots t zero old new = new ≡ old
LogsSnapshots t (suc c) old new = (log : List LogItem) × (w : ℕ) × LogsSnapshots t c old log × (new ≡ log ++ did (Snapshot (Some t) c) (Word w))

-- these are all events of a detach from the slot t, in this order
abbrev pub LogsDetach : ℕ → ℕ → List LogItem → List LogItem → Type 0
LogsDetach cpus t old new = LogsSnapshots t cpus ((old ++ did (Hide t) Done) ++ did (Unpublish t) Done) new
