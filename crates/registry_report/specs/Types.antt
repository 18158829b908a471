-- The types of the crates beneath, passed on from one place. Declares nothing.
pub use Rattle.registry_values.specs.declared.answer.Room.{Room}
pub use Rattle.registry_values.specs.declared.balance.Balance.{Balance}
pub use Rattle.registry_values.specs.declared.entry.Change.{Change}
pub use Rattle.registry_values.specs.declared.entry.Change.TheVariants.{Attach, Detach, Replace}
pub use Rattle.registry_values.specs.declared.entry.Entry.{Entry}
pub use Rattle.registry_values.specs.declared.entry.Kind.{Kind}
pub use Rattle.registry_values.specs.declared.entry.Kind.TheVariants.{Driver, Iface}
pub use Rattle.registry_values.specs.declared.entry.Record.{Record}
pub use Rattle.registry_values.specs.declared.mark.Mark.{Mark}
pub use Rattle.registry_values.specs.declared.refusal.Refusal.{Refusal}
pub use Rattle.registry_values.specs.declared.refusal.Refusal.TheVariants.{BadSettings, HistoryFull, Inside, LocalFull, MissingCpu, NameTaken, NeedsDriver, NoMemory, NoSlot, NotFound, NotHeld}
pub use Rattle.registry_values.specs.declared.refusal.Refusal.TheVariants.{NotRetired, NothingFound, PassiveFull, SectionsSpent, StillHeld, TooDeep, Waiting, WrongCpu}
pub use Rattle.registry_values.specs.declared.settings.Settings.{Settings}
pub use Rattle.registry_values.specs.declared.limits.TheConstants.{MOST_CPUS, MOST_DEPTH}
pub use Rattle.registry_values.specs.declared.slot.Key.{Key}
pub use Rattle.registry_values.specs.declared.slot.Slot.{Slot}
pub use Rattle.registry_values.specs.declared.slot.Slot.TheVariants.{Live, Retired, Vacant}
pub use Rattle.registry_values.specs.declared.stage.Stage.{Stage}
pub use Rattle.registry_values.specs.declared.stage.Stage.TheVariants.{Freed, Grace, Local, Passive}
pub use Rattle.protocol.specs.declared.state.Hand.{Hand}
pub use Rattle.protocol.specs.declared.state.Hand.TheVariants.{Empty}
pub use Rattle.protocol.specs.declared.state.LocalPlace.{LocalPlace}
pub use Rattle.protocol.specs.declared.state.LocalPlace.TheVariants.{Free, Standing}
pub use Rattle.passive_core.specs.declared.psref.CorePsref.{CorePsref}
pub use Rattle.registry_language.specs.declared.command.Command.{Command}
pub use Rattle.registry_language.specs.declared.command.Command.TheVariants.{Advance, Audit, Copy, Count, Destroy, Domain, Enter, Exit, Find, Held, Limits, Peek, Perform, Plug, Read, Reference}
pub use Rattle.registry_language.specs.declared.command.Command.TheVariants.{Release, Uncount}
pub use Rattle.registry_language.specs.declared.fault.RunFault.{RunFault}
