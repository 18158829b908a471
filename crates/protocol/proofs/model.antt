pub mod Refining
pub mod RefiningEntries
pub mod RefiningReferences
pub mod RefiningSections
