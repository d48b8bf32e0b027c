pub mod Coordinates
pub mod Runs
pub mod Counts
pub mod Donor
pub mod Keeping
pub mod Determinacy
