pub mod Answers
pub mod Fit
pub mod Names
pub mod Slots
