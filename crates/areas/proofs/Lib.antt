pub mod Shifting
pub mod FrameBytes
pub mod Laws
