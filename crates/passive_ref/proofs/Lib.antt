pub mod Changing
pub mod Gets
