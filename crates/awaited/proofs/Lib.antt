pub mod ReadyLaws
pub mod AwaitedLaws
