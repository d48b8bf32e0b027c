pub mod Cells
pub mod Draws
