pub mod Outcome
pub mod TrainInner
