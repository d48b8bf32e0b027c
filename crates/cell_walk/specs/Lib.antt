pub mod Candidates
pub mod Results
pub mod CellInner
pub mod WalkInner
