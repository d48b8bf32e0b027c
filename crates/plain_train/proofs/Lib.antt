pub mod Tested
pub mod AllRows
