pub mod Lookups
pub mod calls
pub mod shows
pub mod sound
pub mod Written
