pub mod MaskLaws
pub mod MarkLaws
pub mod FreeLaws
