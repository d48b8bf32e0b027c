pub mod ProbedLists
pub mod ProbedCells
pub mod ProbedWalk
