pub mod Average
pub mod Finite
pub mod AverageInner
