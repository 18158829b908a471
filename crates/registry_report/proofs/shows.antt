-- What a session over the core shows of a registry, before and after a call of the core.
pub mod Attached
pub mod Counted
pub mod Referred
pub mod Sectioned
pub mod Staged
