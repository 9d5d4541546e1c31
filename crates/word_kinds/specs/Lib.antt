pub mod Runs
pub mod Kind
pub mod Words
