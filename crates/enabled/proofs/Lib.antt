pub mod LookLaws
pub mod MarkLaws
