pub mod Coarse
pub mod Tied
pub mod Tested
pub mod Steps
