pub mod Picks
pub mod Stretches
pub mod Determinacy
