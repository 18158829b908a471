-- What each call of a session over the core gives and leaves.
pub mod Changed
pub mod Done
pub mod Hitches
pub mod Sessions
pub mod Walked
