pub mod Shown
pub mod CodesTest
