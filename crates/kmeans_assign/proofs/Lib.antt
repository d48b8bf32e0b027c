pub mod Choosing
pub mod Rows
pub mod Assigning
