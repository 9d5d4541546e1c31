pub mod FrameLaws
pub mod PositionLaws
pub mod BlockLaws
pub mod StepLaws
pub mod BindingsPassed
pub mod TreeLaws
