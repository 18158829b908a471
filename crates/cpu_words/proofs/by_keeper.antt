pub mod Draining
pub mod KeeperSteps
pub mod Keeping
pub mod Publishing
pub mod Republishing
pub mod Storing
pub mod Totals
pub mod Vacating
