pub mod TableLaws
pub mod SectionLaws
