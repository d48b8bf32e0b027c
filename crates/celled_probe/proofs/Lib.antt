pub mod Ranking
pub mod Nearest
