pub mod by_cpu
pub mod by_keeper
pub mod laws
pub mod seats
pub mod shown
pub mod logs
