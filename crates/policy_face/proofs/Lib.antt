pub mod Policy
pub mod Determinacy
