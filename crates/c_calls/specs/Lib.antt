pub mod Types
pub mod Calls
pub mod Changes
pub mod Turns
pub mod LocalCalls
pub mod References
pub mod Opening
pub mod Audits
