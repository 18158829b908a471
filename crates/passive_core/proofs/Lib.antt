pub mod Advancing
pub mod Attaching
pub mod Audits
pub mod Entering
pub mod Locals
pub mod Making
pub mod Passives
pub mod Performing
