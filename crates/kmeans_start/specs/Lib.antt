pub mod Start
pub mod StartInner
