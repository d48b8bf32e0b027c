pub mod Run
pub mod Split
pub mod SplitFacts
pub mod SplitInner
