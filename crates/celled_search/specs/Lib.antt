pub mod Outcome
pub mod SearchInner
