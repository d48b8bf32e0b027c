pub mod Tables
pub mod TablesInner
