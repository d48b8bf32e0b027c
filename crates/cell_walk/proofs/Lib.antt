pub mod Walks
pub mod OneCell
pub mod Cells
