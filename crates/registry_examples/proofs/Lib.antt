pub mod Frees
pub mod Bound
pub mod Accounted
pub mod Searched
pub mod Closed
