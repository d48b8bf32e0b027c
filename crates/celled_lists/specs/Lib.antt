pub mod Lists
pub mod Index
pub mod Cells
pub mod Inner
