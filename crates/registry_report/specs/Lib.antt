pub mod Common
pub mod Lines
pub mod Printed
pub mod Registry
pub mod Report
pub mod Session
pub mod Turns
pub mod Types
