pub mod Represents
pub mod Positions
