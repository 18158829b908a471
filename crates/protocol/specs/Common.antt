-- The definitions of this crate that proofs and the crates above cite, and for its own proofs its types, passed on from one place. Declares nothing.
pub use Rattle.protocol.specs.declared.event.Counted.{Counted}
pub use Rattle.protocol.specs.declared.event.Event.{Event}
pub use Rattle.protocol.specs.declared.event.Event.TheVariants.{Collect, CountAdd, CountDown, Enter, Exit, Hear, JoinKeeper, JoinRef, Keep, KeptSub, LoadLink, LoadRecord, Look, PassiveAdd}
pub use Rattle.protocol.specs.declared.event.Event.TheVariants.{PassiveLook, PassiveSub, Publish, Seat, Seek, Snapshot, Republish, SplitBack, SplitRef, StoreNext, StoreSlot, Tell, TotalAdd, TotalSub, Unpublish}
pub use Rattle.protocol.specs.declared.event.Event.TheVariants.{Confirm, Hide, Recall, RecallHead, Refind, Show, TakeBack, Try, Vacate}
pub use Rattle.protocol.specs.declared.event.RecordOf.{RecordOf}
pub use Rattle.protocol.specs.declared.event.Reply.{Reply}
pub use Rattle.protocol.specs.declared.event.Reply.TheVariants.{Collected, Done, Found, Missed, Ref, Word}
pub use Rattle.protocol.specs.declared.state.Due.{Due}
pub use Rattle.protocol.specs.declared.state.Due.TheVariants.{Adding, Rest, Snapshots, Subtracting}
pub use Rattle.protocol.specs.declared.state.Hand.{Hand}
pub use Rattle.protocol.specs.declared.state.Hand.TheVariants.{Back, Empty, Giving, Taking, Trying}
pub use Rattle.protocol.specs.declared.state.Loaded.{Loaded}
pub use Rattle.protocol.specs.declared.state.Loaded.TheVariants.{On, Over}
pub use Rattle.protocol.specs.declared.state.LocalPlace.{LocalPlace}
pub use Rattle.protocol.specs.declared.state.LocalPlace.TheVariants.{Free, Lifted, Standing}
pub use Rattle.protocol.specs.declared.state.RecordWords.{RecordWords}
pub use Rattle.protocol.specs.declared.state.Search.{Search}
pub use Rattle.protocol.specs.declared.state.SearchPlace.{SearchPlace}
pub use Rattle.protocol.specs.declared.state.SearchPlace.TheVariants.{AtHead, AtHigh, AtKind, AtLow, AtNext, AtNumber, AtValue}
pub use Rattle.protocol.specs.Events.{Outcome, after_add, after_collect, after_collected, after_count_add, after_count_store, after_enter, after_exit}
pub use Rattle.protocol.specs.Events.{after_join_keeper, after_kept_sub, after_look, after_look_passive, after_publish, after_row_store, after_seeing}
pub use Rattle.protocol.specs.Events.{after_seek, after_snapshot, after_split, after_sub, after_total, after_unpublish, after_vacate, are_unused, due_after, entry_if, entry_of, exchange, grows, guard}
pub use Rattle.protocol.specs.Events.{has_room, id_if, is_bias, is_drainable, is_drained, is_driver_slot, is_free, is_idle, is_iface_slot, is_inside, is_number, is_outside, is_prepared}
pub use Rattle.protocol.specs.Events.{is_snapshot_due, keeps_rightly, kind_of, least_id, link_loaded, load_link, load_local, load_passive, load_record, load_searched, may_add, may_collect}
pub use Rattle.protocol.specs.Events.{may_count, may_enter, may_examine, may_exit, may_glance, may_join, may_join_keeper, may_keep, may_look_passive, may_publish, may_seat, may_seek, may_sub}
pub use Rattle.protocol.specs.Events.{may_vacate, may_write, number_standing, outcome_of, room_of, search_over, snapshot_mark, some_outcome, split_back, split_ref, names_lawfully, narrow_step}
pub use Rattle.protocol.specs.Events.{state_after, step, total_add, total_sub, unpublish, with_link_past, with_local, with_retired, with_search_at, with_some, with_word, word, after_confirm}
pub use Rattle.protocol.specs.Events.{compared_slot, confirm, is_honest, has_live, may_confirm, may_hide, may_recall, may_try}
pub use Rattle.protocol.specs.Events.{after_republish, may_republish, republish, with_link_to, with_replaced}
pub use Rattle.protocol.specs.Events.{after_refind, may_recall_head, may_refind, refind, take_back, words_of}
pub use Rattle.protocol.specs.History.{EndsAt, IsAttached, brought_by, ended_by, rank_by, IsLawful, IsLegal, IsLiveAt, IsLookup, IsNewestAt, MayHold, after_change}
pub use Rattle.protocol.specs.Invariant.{AllBelow, AreRows, Balances, CountsHold, DriversKept, DueHolds, FoundHold, HandHolds, HasShape, HeldStay, Holds, IsCounting, IsIn, IsSnapshotDue, Leads}
pub use Rattle.protocol.specs.Invariant.{LinksStay, ListShows, MarksHold, Occupies, PassiveShow, PlaceHolds, ReferencesHold, RowsShow, SearchHolds, SearchesHold, SeatsShow, SectionsShow, SlotsShow}
pub use Rattle.protocol.specs.Invariant.{IsSeenInHand, SnapshotsStand, StandsOn, To_end, To_entry, addition_due_at, greatest_limit, held_at, in_hand, is_adding_at, itself, kept_of, one_if}
pub use Rattle.protocol.specs.Invariant.{one_if_used, standing_of, TriesSeen, subtraction_due_at, Keeps, Steps, WantsMemory}
pub use Rattle.protocol.specs.Laws.{AnswersLawfully, BalanceAtRest, BalancesAtRest, DriversOutlive, EndsByExit, EveryRunKeeps, GraceLaw, HasBegun, HasExit, HasMoved, Headline, InvariantSuffices}
pub use Rattle.protocol.specs.Laws.{HasRepublish, IsKept, IsPlain, IsRepublish, PlainRuns, ReplacedAtOnce, ReplacesAtOnce}
pub use Rattle.protocol.specs.Laws.{IsPublishing, IsAllowed, IsAnswered, IsBalanced, IsLoadOf, IsSafe, LawfulAnswers, ObeysLaws, OutliveInterfaces, ReusesSafely, SafeReuse, after, after_event, answer_of}
pub use Rattle.protocol.specs.Laws.{AreNamedLawfully, NarrowEvents, NarrowNames, NarrowRuns, NewestRecalls, RecallsNewest, AnswersFreshly, FreshAnswers, HasTry, IsFreshAnswer, IsNoSeek, IsTry}
pub use Rattle.protocol.specs.Laws.{SeeksNone, SeesAll, RecallsLive, LiveRecalls, UntriedRuns, WholePasses, destroyed_slot, given_slot, held_of, occupant_of, seek_for}
pub use Rattle.protocol.specs.State.{SlotWithin, entry_with, loaded_at, loaded_of_name, row_of_place, AllClear, AllCollected, AllPassed, MarksGrow, SameElsewhere, State, at_rest, begin_at, cell}
pub use Rattle.protocol.specs.State.{count_at, depth_at, found_at, hand_at, is_empty, kept_at, live_at, local_at, mark_at, no_words, opening, passive_at, row_at, search_at, section_at, seen_at}
pub use Rattle.protocol.specs.State.{total_at, trying_at, trying_of, with_biases, with_cell}
pub use Rattle.protocol.specs.Model.{Acquires, Answers, Attaches, Copies, Counts, Detaches, Enters, Exits, Gives_up, Goes_on, Replaces, IsDriverHere, IsModelRun, IsModelStep, IsUnheld, Lookup, Model, Releases}
pub use Rattle.protocol.specs.Model.{Seeks, Sees, Stays, Takes, TakesNone, Uncounts, Vacates, empty_model, put, with_locals, with_passive, Confirms, EveryRunIsModelRun, HasConfirm, locals_of}
pub use Rattle.protocol.specs.Model.{lookup_of, number_in, passive_in, picture, subtractions_due, Run, empty_run, narrow_run_of_events, run_of_events, run_with_event}
pub use Rattle.protocol.specs.Rows.{KeptDriver, ReplacedUnder, CollectRace, ReplaceRace, TryRace, FrozenLink, Gives}
