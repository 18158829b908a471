-- The types of the crates beneath, passed on from one place. Declares nothing.
pub use Rattle.registry_values.specs.declared.entry.Change.{Change}
pub use Rattle.registry_values.specs.declared.entry.Change.TheVariants.{Attach, Detach, Replace}
pub use Rattle.registry_values.specs.declared.entry.Entry.{Entry}
pub use Rattle.registry_values.specs.declared.entry.Kind.{Kind}
pub use Rattle.registry_values.specs.declared.entry.Kind.TheVariants.{Driver, Iface}
pub use Rattle.registry_values.specs.declared.mark.Mark.{Mark}
pub use Rattle.registry_values.specs.declared.name.Name.{Name}
pub use Rattle.registry_values.specs.declared.settings.Settings.{Settings}
pub use Rattle.registry_values.specs.declared.limits.TheConstants.{MOST_COUNT, MOST_CPUS, MOST_SECTIONS, MOST_SLOTS}
pub use Rattle.registry_values.specs.declared.slot.Key.{Key}
pub use Rattle.registry_values.specs.declared.slot.Slot.{Slot}
pub use Rattle.registry_values.specs.declared.slot.Slot.TheVariants.{Live, Retired, Vacant}
pub use Rattle.protocol.specs.declared.event.Event.{Event}
pub use Rattle.protocol.specs.declared.event.Event.TheVariants.{Collect, CountAdd, CountDown, Enter, Exit, Hear, JoinKeeper, JoinRef, Keep, KeptSub, LoadLink, LoadRecord, Look, PassiveAdd}
pub use Rattle.protocol.specs.declared.event.Event.TheVariants.{PassiveLook, PassiveSub, Publish, Seat, Seek, Snapshot, SplitBack, SplitRef, StoreNext, StoreSlot, Tell, TotalAdd, TotalSub, Republish, Unpublish}
pub use Rattle.protocol.specs.declared.event.Event.TheVariants.{Confirm, Hide, Recall, RecallHead, Refind, Show, TakeBack, Try, Vacate}
pub use Rattle.protocol.specs.declared.event.RecordOf.{RecordOf}
pub use Rattle.protocol.specs.declared.event.RecordOf.TheVariants.{Compared, Local, Passive}
pub use Rattle.protocol.specs.declared.event.Reply.{Reply}
pub use Rattle.protocol.specs.declared.event.Reply.TheVariants.{Collected, Done, Found, Missed, Ref, Word}
pub use Rattle.protocol.specs.declared.state.Due.{Due}
pub use Rattle.protocol.specs.declared.state.Due.TheVariants.{Adding, Rest, Snapshots, Subtracting}
pub use Rattle.protocol.specs.declared.state.Hand.{Hand}
pub use Rattle.protocol.specs.declared.state.Hand.TheVariants.{Back, Empty, Giving, Taking, Trying}
pub use Rattle.protocol.specs.declared.state.Loaded.{Loaded}
pub use Rattle.protocol.specs.declared.state.Loaded.TheVariants.{On, Over}
pub use Rattle.protocol.specs.declared.state.LocalPlace.{LocalPlace}
pub use Rattle.protocol.specs.declared.state.LocalPlace.TheVariants.{Free, Lifted, Standing}
pub use Rattle.protocol.specs.declared.state.RecordWords.{RecordWords}
pub use Rattle.protocol.specs.declared.state.Search.{Search}
pub use Rattle.protocol.specs.declared.state.SearchPlace.{SearchPlace}
pub use Rattle.protocol.specs.declared.state.SearchPlace.TheVariants.{AtHead, AtHigh, AtKind, AtLow, AtNext, AtNumber, AtValue}
