pub mod Stages
pub mod Lent
