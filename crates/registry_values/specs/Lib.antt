pub mod Answers
pub mod Common
pub mod Limits
pub mod Names
pub mod Slots
