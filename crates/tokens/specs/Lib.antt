pub mod Runs
pub mod Next
pub mod Kinds
pub mod Names
