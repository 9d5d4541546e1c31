pub mod Performs
pub mod Targets
pub mod AtFrame
