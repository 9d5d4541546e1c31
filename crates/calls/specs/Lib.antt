pub mod Calls
pub mod Answers
pub mod Lists
pub mod Lent
pub mod Promise
