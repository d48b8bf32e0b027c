pub mod Neighbor
pub mod Rearranged
pub mod Held
pub mod Gathered
