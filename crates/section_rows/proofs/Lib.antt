pub mod PlaceLaws
pub mod SizeLaws
pub mod RowLaws
pub mod AppendLaws
pub mod FileLaws
pub mod SourceLaws
