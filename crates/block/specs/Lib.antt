pub mod Rows
pub mod Layout
pub mod Values
pub mod Block
pub mod Fits
pub mod Decode
