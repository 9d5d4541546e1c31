pub mod Records
pub mod Counted
