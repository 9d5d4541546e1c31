pub mod Parts
pub mod AllAreas
pub mod ByBytes
