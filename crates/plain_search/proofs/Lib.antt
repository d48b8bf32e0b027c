pub mod Tested
pub mod OneCell
