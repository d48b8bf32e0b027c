pub mod Codes
pub mod CodesInner
