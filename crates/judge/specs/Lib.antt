pub mod Standing
pub mod Judging
