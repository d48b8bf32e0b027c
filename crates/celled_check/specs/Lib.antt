pub mod Check
pub mod CheckInner
