pub mod Grammar
pub mod Program
pub mod Words
