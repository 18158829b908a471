pub mod Advancing
pub mod Attaching
pub mod Commands
pub mod Common
pub mod Making
pub mod References
pub mod Types
