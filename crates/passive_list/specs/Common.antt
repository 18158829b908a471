-- The definitions of this crate that proofs and the crates above cite, and for its own proofs its types, passed on from one place. Declares nothing.
pub use Rattle.passive_list.specs.declared.keeper.KeptSlot.{KeptSlot}
pub use Rattle.passive_list.specs.declared.links.At.{At}
pub use Rattle.passive_list.specs.declared.lookup.Seen.{Seen}
pub use Rattle.passive_list.specs.declared.place.Found.{Found}
pub use Rattle.passive_list.specs.declared.place.NumberedCount.{NumberedCount}
pub use Rattle.passive_list.specs.Cpus.{AreNewRows, DepthAgrees, HoldsFound, IsFoundLast, IsKept, IsOurCpu, IsPlaceOf, NetAgree, OnCpu, OnPlainCpu, PassiveAgree, SectionAgrees, no_found, no_place, place_at}
pub use Rattle.passive_list.specs.Cpus.{HasHeardOn, HeardAndTold, WasShown, as_teller, cpu_after_tell, has_heard, has_told, AnswersEnter, HasEnteredOn, HasExitedOn, may_begin}
pub use Rattle.passive_list.specs.Draining.{HasVacated, IsDrainedOn, is_drained_row}
pub use Rattle.passive_list.specs.Walks.{AreStoodOn, GoesOnAt, HasGoneByFrom, HasGoneByOne, HasGoneOver, HasPlaceOf, IsGoingOver, MayGoBy, view_at_link, HasWalked, IsWritten, WasLive}
pub use Rattle.passive_list.specs.Keepers.{AreRanksOf, AreSized, HasRows, IsAtRest, IsOurKeeper, MarksAgree, OnKeeper, OnPlainKeeper, RowAgrees, RowsAgree, no_row, on_keeper, row_at, state_of, states_of}
pub use Rattle.passive_list.specs.Keepers.{total_or_bias, GoesOnBy, HasOwnLog}
pub use Rattle.passive_list.specs.Publishing.{link_to, newer_of, older_of, place_of, HasAttached, HasEntry, LogsAttach, MayAttach, logged_counts, keeper_after_publish}
pub use Rattle.passive_list.specs.Publishing.{keeper_after_stores, with_counts, with_row, AreFresh, AreSnapshots, AreWritten, HasDetached, LogsDetach, LogsSnapshots, with_snapshots}
pub use Rattle.passive_list.specs.Lookups.{HasFound, HasFoundFromOutside, GoesOnByLoads, GoesOnBySoMany, HasGoneOverBy, HasSearchedFor, HasWalkedBy, IsLoad, IsWalkLoad, SearchesOnce, nobody}
pub use Rattle.passive_list.specs.Lookups.{HasLookedUp, HasMissed, HasTaken, HasVisited, HasVisitedFrom, IsAtLink, IsOn, IsUnderWay, after_visit, cpu_with_search_at, entry_seen, search_at}
pub use Rattle.passive_list.specs.Memories.{ByWord, HasCleared, HasForgotten, HasNumbered, IsEntrys, IsMiss, IsOfNoKind, IsOfRow, IsRow, IsSome, IsTrueMiss, KeepsOthers, Memory, Missed, Misses, Recalls, RecallsAt, RecallsWords, Remembers}
pub use Rattle.passive_list.specs.Memories.{WasAbsent, LeadBelow, hint_at, hint_of, hinted, is_for, keeps, memo_at, memo_of, memo_with, miss_at, miss_of, missed_as, no_hint, no_memo, no_memory, no_miss, no_name, with_miss}
pub use Rattle.passive_list.specs.Memories.{with_seen}
pub use Rattle.passive_list.specs.Remembering.{HasRecalledHeadOn, HasRecalledOn, HasRefoundAs, HasRefoundOn, FindsAfterHead, FindsAfterWord, FindsAndRemembers, FindsBy, FindsInside}
pub use Rattle.passive_list.specs.Remembering.{FindsWhatIsKept, FindsWhatStays, HasFoundAnew, HasFoundByMemory, HasFoundInSection, HasFoundKept, HasRecalledAs, HasRecalledByMemory}
pub use Rattle.passive_list.specs.Remembering.{HasRecalledInVain, HasSeen, IsAbsentAt, RecallsBy, RecallsSeen, Refinds, RefindsSeen, RemembersAnswer, RemembersSo}
pub use Rattle.passive_list.specs.Replacing.{HasReplaced, HasReplacedIn, LogsReplace, MayReplace, keeper_after_hide, keeper_after_place, keeper_after_snapshots, rows_replaced, rows_taken}
