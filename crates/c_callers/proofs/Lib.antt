pub mod Waits
pub mod Releases
pub mod Holds
