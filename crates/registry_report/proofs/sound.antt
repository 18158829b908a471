-- The registry of the report goes on by lawful steps of the model.
pub mod Commands
pub mod Entries
pub mod Sections
pub mod Turns
