pub mod Laws
pub mod TargetLaws
pub mod ReadLaws
pub mod FieldValues
pub mod Positions
pub mod Ready
pub mod Shutting
pub mod FrameLaws
