pub mod Coarse
pub mod Codes
pub mod CellSlices
