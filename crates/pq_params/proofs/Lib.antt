pub mod Bounds
pub mod RangeRule
pub mod Numbers
pub mod RangeList
pub mod Examples
pub mod Refusing
