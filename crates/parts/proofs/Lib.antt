pub mod AllAreas
pub mod Areas
pub mod ByBytes
pub mod Parts
