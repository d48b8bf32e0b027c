pub mod Values
pub mod Laws
pub mod Draws
