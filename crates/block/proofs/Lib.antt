pub mod Rows
pub mod Values
pub mod Trees
pub mod Words
pub mod Fits
pub mod Decode
