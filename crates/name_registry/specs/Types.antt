-- The types of the crates beneath, passed on from one place. Declares nothing.
pub use Rattle.registry_values.specs.declared.answer.Room.{Room}
pub use Rattle.registry_values.specs.declared.balance.Balance.{Balance}
pub use Rattle.registry_values.specs.declared.entry.Change.{Change}
pub use Rattle.registry_values.specs.declared.entry.Change.TheVariants.{Attach, Detach, Replace}
pub use Rattle.registry_values.specs.declared.entry.Entry.{Entry}
pub use Rattle.registry_values.specs.declared.entry.Kind.{Kind}
pub use Rattle.registry_values.specs.declared.entry.Kind.TheVariants.{Driver, Iface}
pub use Rattle.registry_values.specs.declared.entry.Record.{Record}
pub use Rattle.registry_values.specs.declared.mark.Mark.{Mark}
pub use Rattle.registry_values.specs.declared.name.Name.{Name}
pub use Rattle.registry_values.specs.declared.refusal.Refusal.{Refusal}
pub use Rattle.registry_values.specs.declared.refusal.Refusal.TheVariants.{HistoryFull, Inside, NameTaken, NeedsDriver, NoMemory, NoSlot, NotFound, NotRetired, SectionsSpent, StillHeld, Waiting}
pub use Rattle.registry_values.specs.declared.settings.Settings.{Settings}
pub use Rattle.registry_values.specs.declared.limits.TheConstants.{MOST_CHANGES, MOST_CPUS, MOST_SLOTS}
pub use Rattle.registry_values.specs.declared.slot.Key.{Key}
pub use Rattle.registry_values.specs.declared.slot.Slot.{Slot}
pub use Rattle.registry_values.specs.declared.slot.Slot.TheVariants.{Live, Retired, Vacant}
pub use Rattle.registry_values.specs.declared.stage.Stage.{Stage}
pub use Rattle.registry_values.specs.declared.stage.Stage.TheVariants.{Freed, Grace, Local, Passive}
pub use Rattle.protocol.specs.declared.event.Event.{Event}
pub use Rattle.protocol.specs.declared.event.Event.TheVariants.{Collect, Hear, JoinKeeper, Keep, KeptSub, Look, PassiveLook, PassiveSub, Snapshot, Tell, TotalAdd, TotalSub, Vacate}
pub use Rattle.protocol.specs.declared.event.Reply.{Reply}
pub use Rattle.protocol.specs.declared.event.Reply.TheVariants.{Done, Word}
pub use Rattle.protocol.specs.declared.state.Due.{Due}
pub use Rattle.protocol.specs.declared.state.Due.TheVariants.{Rest}
pub use Rattle.cpu_words.specs.declared.view.CpuView.{CpuView}
pub use Rattle.cpu_words.specs.declared.view.KeeperView.{KeeperView}
pub use Rattle.cpu_words.specs.declared.view.EndedSeat.{EndedSeat}
pub use Rattle.cpu_words.specs.declared.view.LogItem.{LogItem}
pub use Rattle.cpu_words.specs.declared.view.ReferenceView.{ReferenceView}
pub use Rattle.cpu_words.specs.declared.view.Teller.{Teller}
pub use Rattle.cpu_words.specs.declared.view.View.{View}
pub use Rattle.cpu_words.specs.declared.view.View.TheVariants.{Cpu, Keeper}
pub use Rattle.passive_list.specs.declared.keeper.KeptSlot.{KeptSlot}
pub use Rattle.passive_list.specs.declared.lookup.Seen.{Seen}
pub use Rattle.passive_list.specs.declared.place.NumberedCount.{NumberedCount}
