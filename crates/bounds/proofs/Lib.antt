pub mod Counters
pub mod Outside
pub mod Pass
pub mod Answers
pub mod Text
pub mod PlaceLaws
