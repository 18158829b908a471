-- The definitions of this crate that proofs and the crates above cite, and for its own proofs its types, passed on from one place. Declares nothing.
pub use Rattle.passive_core.specs.declared.machine.commands.attach.Before.{Before}
pub use Rattle.passive_core.specs.Advancing.{AdvanceLeaves, AdvanceMarks, ClearBelow, Clears, DestroyLeaves, Empties, Gathers, HoldersAreOpen, LeavesFree, LeavesMarks, LeavesTotal, MarksClear}
pub use Rattle.passive_core.specs.Advancing.{MarksPass, Passes, SameBut, Settles, StageLeaves, StageMarks, advance_answer, count_given_up, destroy_answer, first_obstacle, has_passive, is_open_since}
pub use Rattle.passive_core.specs.Advancing.{is_snapshot, plain_obstacle, plain_stage, refers_to, stage_in, AllOutside, AreSeen, OnlyPasses, PerformLeaves, perform_answer}
pub use Rattle.passive_core.specs.Attaching.{IsAnswer, after_attach, after_attach_iface, attach_answer, attach_iface_answer, first_fit, given_entry, is_driver_in, is_driver_number, is_to_driver}
pub use Rattle.passive_core.specs.Attaching.{with_attach_undone, with_linked, with_prepared, with_reference_given_back, with_reference_kept, words_before, IsDetachAnswer, IsDetachRefusal, IsLookupNow}
pub use Rattle.passive_core.specs.Attaching.{after_detach, snapshot_row, with_all_snapshots, with_detached}
pub use Rattle.passive_core.specs.References.{IsHeldRightly, audit_of, locals_at, tallies_at, tallies_below, tally_of, IsCounted, after_acquire_local, after_counting, after_release_local, count_in}
pub use Rattle.passive_core.specs.References.{count_refusal, free_added, is_counting, is_live_local, local_slot, release_events, slot_if, under_events, with_count_less, with_count_more, with_room}
pub use Rattle.passive_core.specs.References.{with_total_less, IsOneLess, IsOneMore, IsRecordOf, passive_of, psref_copy, psref_to_found, refusal_of, with_one_less, with_one_more}
pub use Rattle.passive_core.specs.Commands.{IsQuiet, all_seated, may_act, after_enter_command, after_exit_command, enter_answer, with_depth, after_find, load_at, next_load, state_shown}
pub use Rattle.passive_core.specs.Making.{AdvanceMakes, FindMakes, IsCollectionFor, IsFreeingOf, IsLookFor, IsPassiveLookFor, IsSeat, IsWaiting, IsWork, Makes, MakesOnly, count_stores_from}
pub use Rattle.passive_core.specs.Making.{detach_events, linking_events, prepare_events, record_stores, seats_and, seats_from, snapshots_from}
