pub mod SubtypeLaws
pub mod RowLaws
