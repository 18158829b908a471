pub mod References
pub mod GivenUp
pub mod Kept
pub mod Freed
