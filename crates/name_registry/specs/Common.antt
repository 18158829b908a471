-- The definitions of this crate that proofs and the crates above cite, and for its own proofs its types, passed on from one place. Declares nothing.
pub use Rattle.name_registry.specs.Destroying.{ClearBelow, CollectedBelow, EndsIn, HasAdvanced, HasEnded, HasLookedFor, HasLookedLast, HasWorkedFor, IsGoneIfFreed, IsLook, LooksBelow, LooksUnless}
pub use Rattle.name_registry.specs.Destroying.{MayWork, Meets, MeetsGrace, MeetsLocal, MeetsPassive, PassedBelow, SeesPassive, SeesSection, Settles, is_retired_row, Destroys, DestroysOutside}
pub use Rattle.name_registry.specs.Destroying.{HasAdvancedFor, HasDestroyed, LastMeeting, SomeAdvancedFor, TurnsMeeting, AnswersBy, IsDestroyAnswer, IsNotRetired, IsRetiredIn, IsTurn}
pub use Rattle.name_registry.specs.Changes.{HasAttachedFor, HasAttachedIfaceFor, attach_answer, attach_iface_answer, first_fit, given_entry, room_answer, room_of, HasMade, WeightsTell, number_of}
pub use Rattle.name_registry.specs.Changes.{unit, weigh, weight, HasDetachedFor, IsDetachAnswer, IsDetachRefusal, IsLivePlace, IsLookupNow, fit_slot, slot_answer}
pub use Rattle.name_registry.specs.Changes.{AreReplaced, HasReplacedFor, HasReplacedIfaceFor, IsReplaceAnswer, IsReplaceRefusalOf}
pub use Rattle.name_registry.specs.Auditing.{AreAllThere, AreItsWords, AreOf, AreThere, AreTold, WritesNext, entries_in, occupied}
pub use Rattle.name_registry.specs.Auditing.{AreAlike, AreAllCpus, AreShown, HasListened, HasToldAll, HaveHeardAndTold, HaveLearned, HavePass, IsAuditBy, IsAuditIn, IsAuditOf, IsKeeperOf, IsShownOn}
pub use Rattle.name_registry.specs.Auditing.{IsTallied, KnowAll, KnowTheSame, Listed, Occupies, acquired_of, audited, audited_at, audited_below, each_at, each_below, is_collected, listed_at, local_by}
pub use Rattle.name_registry.specs.Auditing.{local_in, local_met, local_of, locals_met, locals_of, net_met, net_of, net_unless, place_of, places_below, released_of, tallies_below, tallies_met, tally}
pub use Rattle.name_registry.specs.Auditing.{tally_by, tally_in, tally_met, tally_of, total_in, counts_of}
pub use Rattle.name_registry.specs.Opening.{AreTaken, ClosesRun, ClosesRunOf, made_by, AreNewCpus, AreOpened, IsBlankOf, boxed, new_on, opened_cpu}
pub use Rattle.name_registry.specs.Locking.{IsAttachRefusal, IsDestroyRefusal, IsDetachRefusedTo, IsReplaceRefusedTo, IsPerformRefusal, IsStageOf, MayAttach, HasLearned, HasSeenAttach, HasSeenDetach, HasSeenReplace, IsNote, KeepsWords}
pub use Rattle.name_registry.specs.Locking.{hears_cpu, is_inside, keeper_after_hear, keeper_after_tell, tells_and_hears, tells_twice_and_hears, HasGivenUpFor, IsLetGo, IsLetGoAndHeard, KnowsGivenUp}
pub use Rattle.name_registry.specs.Locking.{gives_up, is_available_row, is_live_row}
pub use Rattle.name_registry.specs.Performing.{Finishes, GlancesBelow, GlancesOnce, HasBegun, HasGlanced, HasPassedAll, HasPassedFor, HasPerformed, HasSeenAllOut, Hold, LastTurn, Looking, LooksOnce}
pub use Rattle.name_registry.specs.Performing.{PassesBelow, PassesEntry, PassesIf, PerformsOutside, SnapshotsBelow, SomeBegan, SomeGlanced, SomePassed, TurnsWaiting, is_seen, looking, none_seen}
pub use Rattle.name_registry.specs.Performing.{HaveAllEnded}
pub use Rattle.name_registry.specs.Destroying.{StaysGoneBy}
pub use Rattle.name_registry.specs.Performing.{word_of}
pub use Rattle.name_registry.specs.GettingLocal.{CountsInSection, FindsAndCounts, GetsLocal, got_of, got_with}
pub use Rattle.name_registry.specs.WithDriver.{AttachesByName, IsOfDriver, NamesDriver, ReplacesByName, TakesDriver, as_needed, driver_key}
