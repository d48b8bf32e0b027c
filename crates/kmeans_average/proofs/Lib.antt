pub mod Averaging
pub mod Finite
