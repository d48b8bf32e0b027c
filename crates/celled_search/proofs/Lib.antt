pub mod Tested
pub mod Steps
