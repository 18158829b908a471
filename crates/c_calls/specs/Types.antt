-- The types of the crates beneath, passed on from one place. Declares nothing.
pub use Rattle.registry_values.specs.declared.entry.Change.{Change}
pub use Rattle.registry_values.specs.declared.entry.Entry.{Entry}
pub use Rattle.registry_values.specs.declared.entry.Kind.{Kind}
pub use Rattle.registry_values.specs.declared.entry.Kind.TheVariants.{Driver, Iface}
pub use Rattle.registry_values.specs.declared.entry.Record.{Record}
pub use Rattle.registry_values.specs.declared.mark.Mark.{Mark}
pub use Rattle.registry_values.specs.declared.name.Name.{Name}
pub use Rattle.registry_values.specs.declared.refusal.Refusal.{Refusal}
pub use Rattle.registry_values.specs.declared.refusal.Refusal.TheVariants.{BadSettings, HistoryFull, Inside, LocalFull, MissingCpu, NameTaken, NeedsDriver, NoMemory, NoSlot, NotFound, NotHeld}
pub use Rattle.registry_values.specs.declared.refusal.Refusal.TheVariants.{NotRetired, NothingFound, PassiveFull, SectionsSpent, StillHeld, TooDeep, Waiting, WrongCpu}
pub use Rattle.registry_values.specs.declared.settings.Settings.{Settings}
pub use Rattle.registry_values.specs.declared.limits.TheConstants.{MOST_CPUS}
pub use Rattle.registry_values.specs.declared.slot.Key.{Key}
pub use Rattle.registry_values.specs.declared.slot.Slot.{Slot}
pub use Rattle.registry_values.specs.declared.slot.Slot.TheVariants.{Live, Retired, Vacant}
pub use Rattle.registry_values.specs.declared.stage.Stage.{Stage}
pub use Rattle.registry_values.specs.declared.stage.Stage.TheVariants.{Freed, Grace, Local, Passive}
pub use Rattle.cpu_words.specs.declared.view.CpuView.{CpuView}
pub use Rattle.cpu_words.specs.declared.view.LogItem.{LogItem}
pub use Rattle.cpu_words.specs.declared.view.ReferenceView.{ReferenceView}
