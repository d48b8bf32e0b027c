pub mod StretchInner
