-- The definitions of this crate that proofs and the crates above cite, and for its own proofs its types, passed on from one place. Declares nothing.
pub use Rattle.cpu_words.specs.declared.view.CpuView.{CpuView}
pub use Rattle.cpu_words.specs.declared.view.EndedSeat.{EndedSeat}
pub use Rattle.cpu_words.specs.declared.view.InHand.{InHand}
pub use Rattle.cpu_words.specs.declared.view.InHand.TheVariants.{Back, Empty, Giving, Taking, Trying}
pub use Rattle.cpu_words.specs.declared.view.KeeperView.{KeeperView}
pub use Rattle.cpu_words.specs.declared.view.LogItem.{LogItem}
pub use Rattle.cpu_words.specs.declared.view.Logged.{Logged}
pub use Rattle.cpu_words.specs.declared.view.ReferenceView.{ReferenceView}
pub use Rattle.cpu_words.specs.declared.view.Teller.{Teller}
pub use Rattle.cpu_words.specs.declared.view.View.{View}
pub use Rattle.cpu_words.specs.declared.view.View.TheVariants.{Cpu, Keeper, Note, Reference, Spent}
pub use Rattle.cpu_words.specs.Steps.{HasNone, ListGoesOn, is_border, is_hear, part, CpuMay, JoinsBy, JoinsOn, KeeperMay, KeeperStores, Makes, Moves, OneSeat, ReferenceMay, SeatMakes, SeatMay}
pub use Rattle.cpu_words.specs.Steps.{SplitsBy, SplitsOn}
pub use Rattle.cpu_words.specs.Held.{CountExactly, Finds, FreesNoLocals, FreesNoneHeld, HasFoundInside, KeepsHeld, acquired_by, acquired_from, acquired_in, found_after, is_exit}
pub use Rattle.cpu_words.specs.Held.{joined_after, local_references, passive_after, passive_by, passive_from, released_by, released_from, released_in, tried_after}
pub use Rattle.cpu_words.specs.Headline.{HasOneSeat, IsBalanced, SeatsBalance, count_word, hand_to, held_by_seats, in_hand_to, total_word}
pub use Rattle.cpu_words.specs.Headline.{RunsAsLogged, RunsLawfully, SectionMayHold}
pub use Rattle.cpu_words.specs.Called.{CpuHearsLater, EndsOpenSections, HasLeft, HasLeftSince, HasToldSince, KeeperHearsLater}
pub use Rattle.cpu_words.specs.Seats.{AreWordsOf, CpuHears, KeeperHasHeard, KeeperHears, keeper_with_note, with_note}
pub use Rattle.cpu_words.specs.Seats.{AreSeats, cpu_seat, keeper_with, one_seated}
pub use Rattle.cpu_words.specs.Draining.{CollectTold, HasAdded, HasCollected, HasKeptSub, HasLookedPassive, IsFoundCollected, KeptSubTold, LookedPassiveTold, MayCollect, MayJoinKeeper, MayKeptSub}
pub use Rattle.cpu_words.specs.Draining.{MayPassiveLook, MayTotalAdd, TotalAddTold, TotalSubTold, keeper_after_join, row_of, HasLooked, HasSnapshot, LookTold, MayGlance}
pub use Rattle.cpu_words.specs.Draining.{MayLook, MaySnapshot, due_next, keeper_after_look, IsDrained, MayVacate, MayWrite, VacateTold, keeper_after_vacate}
pub use Rattle.cpu_words.specs.Freed.{HaveClosed, IsWholeIn, cpu_end}
pub use Rattle.cpu_words.specs.Freed.{EndsRun, HasClosed, IsGoneFrom, LastView}
pub use Rattle.cpu_words.specs.Fresh.{HeadsAreNewest, LookupsAreFresh, LookupsAreLinear, PassesAreWhole, RecallsAreLive, RefindsAreLive, WholeInTheList, has_sought, history_length, until_reply, with_reply}
pub use Rattle.cpu_words.specs.KeeperLog.{AreCountsOf, AreMarksOf, AreSlotsOf, AreTotalsOf, FindsWord, HasHeardFrom, HasPassedOn, HasWaited, IsAttachedKeeping, IsDetachedFrom, IsFreedFrom, IsOwnLog}
pub use Rattle.cpu_words.specs.KeeperLog.{IsSeenOut, IsShownAfter, IsSnapped, KeepsEntry, KeepsSlot, KnownLogGrows, Standing, WordsGrow, attached, changes_in, changes_of, detached, given_after}
pub use Rattle.cpu_words.specs.KeeperLog.{given_by, given_up, has_found, has_heard_from, has_looked, has_looked_passive, has_snapped, has_taken, heard_from, is_change_at, is_detach_from, is_drawn}
pub use Rattle.cpu_words.specs.KeeperLog.{is_there, keeping, keeping_from, keeps_next, names, nothing, number_of, occupant, occupant_after, occupant_from, occupant_of, replied, standing, stands_after}
pub use Rattle.cpu_words.specs.KeeperLog.{stands_from, sum_below, sum_collected, word_after, word_collected, word_from, word_if, word_in, word_or_none, words_collected}
pub use Rattle.cpu_words.specs.Publishing.{MayKeep, keeper_after_keep, with_kept, LiveTold, MayHide, MayShow, keeper_after_live, HasPublished, HasUnpublished, HasRepublished, MayRepublish, RepublishTold, keeper_after_republish, IsBefore, IsLinkPlace, LeadsBelow}
pub use Rattle.cpu_words.specs.Publishing.{MayPublish, MayUnpublish, PublishTold, UnpublishTold, head_with, keeper_after_unpublish, link_index, links_with, CountStored, HasCountWord, HasLink}
pub use Rattle.cpu_words.specs.Publishing.{HasRecordWord, LinkStored, RecordStored}
pub use Rattle.cpu_words.specs.Locals.{CountTold, DownTold, HasCounted, HasCountedDown, HasFoundCollected, HasSplit, HasSplitBack, IsMetAlone, IsNetCount, IsPlaceCount, MayCount}
pub use Rattle.cpu_words.specs.Locals.{MayCountDown, down_reply, with_hand, loads_by, tells_local}
pub use Rattle.cpu_words.specs.Logs.{AreBy, AreByOwn, AreToldBefore, HasComeIf, HasHeardAll, HasItsSections, IsSeatOf, IsStanding, IsToldBefore, IsTold, Knows, LoggedRuled, Maker, another}
pub use Rattle.cpu_words.specs.Logs.{events_of, gives_up, heard_by_cpu, heard_by_keeper, hears_note, joined_seat, keeps_for}
pub use Rattle.cpu_words.specs.Logs.{maker, spent_seat, teller_if, teller_of, the_cpu, the_keeper}
pub use Rattle.cpu_words.specs.Logs.{AreStillThere, IsStillThere, end_of, ended_seat, logged_cpu, untold, who, with_end, without_logs}
pub use Rattle.cpu_words.specs.Waiting.{OrderedInTime, TwoMoments, HadHeard, HasEndedOn, HasEndedSince, HaveEnded, IsBeforeTelling, WaitingEnds}
pub use Rattle.cpu_words.specs.Passives.{HasSubtracted, IsAloneAt, IsAt, IsWordOf, MayAdd, MayUse, tells_added, tells_passive, tells_subtracted, HasRecalled, HasRecalledHead, HasRefound, HasSeenMore}
pub use Rattle.cpu_words.specs.Passives.{IsLiveNumber, IsRefound, MayRecall, MayRefind, RecalledTold, RefindTold, EndTold, HasConfirmed, HasTakenBack, HasTried, IsTrying, MayEndTry, MayTakeBack}
pub use Rattle.cpu_words.specs.Passives.{MayTry, TriedTold, event_by}
pub use Rattle.cpu_words.specs.Publishing.LeadsBelow.{To_end, To_slot}
pub use Rattle.cpu_words.specs.Rule.{Agrees, GoesOn, Good, HaveViews, IsFresh, IsShown, IsShownAs, IsShownCpu, Reached, Ruled, ShowsViews, Sits, by_number, did, log_from, log_item, log_of_events}
pub use Rattle.cpu_words.specs.Rule.{log_with, number_of_id, number_or_none, reference_to, reply_without_id}
pub use Rattle.cpu_words.specs.Sections.{Descends, HasFollowed, HasLoadedLink, HasLoadedWord, HasSought, IsAtWord, LinkHolds, MayLoadLink, MayLoadSearched, MaySeek}
pub use Rattle.cpu_words.specs.Sections.{KeepsPlace, MayStandOn, PassTells, SkipsNone, cpu_after_link, cpu_after_record_word, cpu_after_seek, every_word, key_with, link_answer, loaded_answer, loaded_of}
pub use Rattle.cpu_words.specs.Sections.{IsValueThere, search_for, sought, tells_compared, HasEntered, HasExited, HasWholePass, IsIdle, MayEnter, MayExit}
pub use Rattle.cpu_words.specs.Spots.{AreApart, FirstWordsFree, IsRowOf, IsSpot, LinesApart, OnePlace, Spot, count_of, head_word, index, live_of, next_of, owner, passive_of, record_of, rows_from, section_of}
pub use Rattle.cpu_words.specs.Spots.{stride_of, total_of, word_at, words_of}
pub use Rattle.cpu_words.specs.Views.{CpuShown, LivesShow, GivesUp, HandFits, IsCollectedFor, KeeperShown, Named, ReferenceShown, SameHand, Seated, Shown, collected_net, collected_one, cpu_of}
pub use Rattle.cpu_words.specs.Views.{cpu_view, depth_of, first_view, is_to, keeper_of, keeper_view, new_cpu, new_keeper, no_entry, no_settings, note_of, number_at, one_more, reference_of, references_to}
pub use Rattle.cpu_words.specs.Views.{trying_in, with_number, without}
