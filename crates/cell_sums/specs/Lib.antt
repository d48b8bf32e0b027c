pub mod Sums
pub mod SumsInner
