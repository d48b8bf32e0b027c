pub mod Marks
pub mod Entries
pub mod Determinacy
