pub mod Failed
pub mod Filled
pub mod Listed
pub mod Tally
