pub mod NameLaws
pub mod RecordLaws
pub mod UseLaws
