pub mod Placing
pub mod ReferenceLists
pub mod Seeing
pub mod Showing
