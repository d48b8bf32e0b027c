pub mod Layout
pub mod Compare
pub mod Replay
