pub mod Written
pub mod Output
