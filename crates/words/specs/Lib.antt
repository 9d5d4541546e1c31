pub mod Word
pub mod Integer
