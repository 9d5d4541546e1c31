pub mod NodeLaws
pub mod WakeLaws
pub mod ChoiceLaws
