pub mod AdvanceLaws
pub mod JudgeLaws
