pub mod Ended
pub mod Labelled
pub mod LiveCpus
