pub mod Free
pub mod Gathered
