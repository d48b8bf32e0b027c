pub mod Training
pub mod CellsInner
