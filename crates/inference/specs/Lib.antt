pub mod Tables
pub mod Walk
pub mod Given
