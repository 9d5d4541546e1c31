pub mod WrittenLaws
pub mod OutputLaws
