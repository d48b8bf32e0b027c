pub mod Summing
pub mod Determinacy
