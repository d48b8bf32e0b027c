pub mod Search
pub mod ProbedInner
