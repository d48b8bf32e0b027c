pub mod Bounds
pub mod Ranges
pub mod Defaults
pub mod RangesRight
pub mod Lengths
pub mod Refusals
pub mod Codes
