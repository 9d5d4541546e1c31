pub mod Ranks
pub mod Facts
pub mod Filling
