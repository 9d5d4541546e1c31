pub mod AllTexts
pub mod Splitting
pub mod Fixed
pub mod Ways
