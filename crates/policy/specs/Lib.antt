pub mod Check
pub mod Sight
pub mod Policy
pub mod PlainPolicy
pub mod Results
pub mod OneCell
