pub mod CheckInner
