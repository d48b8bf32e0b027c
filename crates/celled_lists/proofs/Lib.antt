pub mod Lengths
pub mod Walked
pub mod Starts
pub mod CellLists
pub mod Filled
pub mod FillingInner
