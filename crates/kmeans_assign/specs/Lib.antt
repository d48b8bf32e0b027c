pub mod Task
pub mod Assign
pub mod AssignFacts
