pub mod CpuSteps
pub mod Hands
pub mod Locals
pub mod Passives
pub mod Recalling
pub mod Searching
pub mod Sections
pub mod Trying
