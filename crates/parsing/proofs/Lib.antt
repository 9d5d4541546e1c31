pub mod Written
pub mod Said
pub mod Walks
pub mod Completed
pub mod Place
