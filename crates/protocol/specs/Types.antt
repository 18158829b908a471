-- The types of the crates beneath, passed on from one place. Declares nothing.
pub use Rattle.registry_values.specs.declared.answer.Room.{Room}
pub use Rattle.registry_values.specs.declared.entry.Change.{Change}
pub use Rattle.registry_values.specs.declared.entry.Change.TheVariants.{Attach, Detach, Replace}
pub use Rattle.registry_values.specs.declared.entry.Entry.{Entry}
pub use Rattle.registry_values.specs.declared.entry.Kind.{Kind}
pub use Rattle.registry_values.specs.declared.entry.Kind.TheVariants.{Driver, Iface}
pub use Rattle.registry_values.specs.declared.mark.Mark.{Mark}
pub use Rattle.registry_values.specs.declared.name.Name.{Name}
pub use Rattle.registry_values.specs.declared.settings.Settings.{Settings}
pub use Rattle.registry_values.specs.declared.limits.TheConstants.{MOST_COUNT, MOST_CPUS, MOST_DEPTH}
pub use Rattle.registry_values.specs.declared.slot.Key.{Key}
pub use Rattle.registry_values.specs.declared.slot.Slot.{Slot}
pub use Rattle.registry_values.specs.declared.slot.Slot.TheVariants.{Live, Retired, Vacant}
