pub mod Roles
pub mod Begun
pub mod Faultless
pub mod Ranges
pub mod Lengths
pub mod Within
pub mod Few
