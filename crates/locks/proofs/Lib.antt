pub mod MarkLaws
pub mod LockLaws
