pub mod CheckLaws
pub mod StageLaws
