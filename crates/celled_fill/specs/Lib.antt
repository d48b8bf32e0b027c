pub mod Fill
pub mod FillInner
