-- The types of the crates beneath, passed on from one place. Declares nothing.
pub use Rattle.registry_values.specs.declared.limits.TheConstants.{MOST_SLOTS}
pub use Rattle.registry_values.specs.declared.entry.Entry.{Entry}
pub use Rattle.registry_values.specs.declared.entry.Kind.{Kind}
pub use Rattle.registry_values.specs.declared.entry.Kind.TheVariants.{Driver, Iface}
pub use Rattle.registry_values.specs.declared.name.Name.{Name}
pub use Rattle.registry_values.specs.declared.refusal.Refusal.{Refusal}
pub use Rattle.registry_values.specs.declared.settings.Settings.{Settings}
pub use Rattle.registry_values.specs.declared.stage.Stage.{Stage}
pub use Rattle.registry_values.specs.declared.stage.Stage.TheVariants.{Freed, Grace, Local, Passive}
pub use Rattle.cpu_words.specs.declared.view.ReferenceView.{ReferenceView}
