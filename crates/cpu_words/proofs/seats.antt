pub mod Ending
pub mod Notes
pub mod Seating
