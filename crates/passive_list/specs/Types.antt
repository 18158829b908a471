-- The types of the crates beneath, passed on from one place. Declares nothing.
pub use Rattle.registry_values.specs.declared.entry.Change.{Change}
pub use Rattle.registry_values.specs.declared.entry.Change.TheVariants.{Attach, Detach, Replace}
pub use Rattle.registry_values.specs.declared.entry.Entry.{Entry}
pub use Rattle.registry_values.specs.declared.entry.Kind.{Kind}
pub use Rattle.registry_values.specs.declared.entry.Kind.TheVariants.{Driver, Iface}
pub use Rattle.registry_values.specs.declared.entry.Record.{Record}
pub use Rattle.registry_values.specs.declared.mark.Mark.{Mark}
pub use Rattle.registry_values.specs.declared.name.Name.{Name}
pub use Rattle.registry_values.specs.declared.refusal.Refusal.{Refusal}
pub use Rattle.registry_values.specs.declared.refusal.Refusal.TheVariants.{LocalFull, NothingFound}
pub use Rattle.registry_values.specs.declared.settings.Settings.{Settings}
pub use Rattle.registry_values.specs.declared.limits.TheConstants.{MOST_CPUS, MOST_DEPTH, MOST_SLOTS}
pub use Rattle.registry_values.specs.declared.slot.Key.{Key}
pub use Rattle.registry_values.specs.declared.slot.Slot.{Slot}
pub use Rattle.registry_values.specs.declared.slot.Slot.TheVariants.{Live, Retired, Vacant}
pub use Rattle.protocol.specs.declared.event.Event.{Event}
pub use Rattle.protocol.specs.declared.event.Event.TheVariants.{Collect, CountAdd, CountDown, Enter, Exit, Hear, JoinKeeper, JoinRef, Keep, KeptSub, LoadLink, LoadRecord, Look, PassiveAdd, StoreNext, StoreSlot}
pub use Rattle.protocol.specs.declared.event.Event.TheVariants.{PassiveLook, PassiveSub, Publish, Republish, Seek, Snapshot, SplitBack, SplitRef, Tell, TotalAdd, TotalSub, Unpublish, Confirm, Hide, Recall, RecallHead, Refind, Show, TakeBack, Try, Vacate}
pub use Rattle.protocol.specs.declared.event.RecordOf.TheVariants.{Compared, Passive}
pub use Rattle.protocol.specs.declared.event.Reply.{Reply}
pub use Rattle.protocol.specs.declared.event.Reply.TheVariants.{Collected, Done, Found, Missed, Ref, Word}
pub use Rattle.protocol.specs.declared.state.Due.{Due}
pub use Rattle.protocol.specs.declared.state.Due.TheVariants.{Adding, Rest, Snapshots, Subtracting}
pub use Rattle.protocol.specs.declared.state.Loaded.TheVariants.{On}
pub use Rattle.protocol.specs.declared.state.RecordWords.{RecordWords}
pub use Rattle.protocol.specs.declared.state.Search.{Search}
pub use Rattle.protocol.specs.declared.state.SearchPlace.{SearchPlace}
pub use Rattle.protocol.specs.declared.state.SearchPlace.TheVariants.{AtHigh, AtKind, AtLow, AtNext, AtNumber, AtValue}
pub use Rattle.cpu_words.specs.declared.layout.Row.{Row}
pub use Rattle.cpu_words.specs.declared.view.CpuView.{CpuView}
pub use Rattle.cpu_words.specs.declared.view.KeeperView.{KeeperView}
pub use Rattle.cpu_words.specs.declared.view.LogItem.{LogItem}
pub use Rattle.cpu_words.specs.declared.view.ReferenceView.{ReferenceView}
pub use Rattle.cpu_words.specs.declared.view.Teller.{Teller}
pub use Rattle.cpu_words.specs.declared.view.View.TheVariants.{Cpu, Keeper, Reference}
