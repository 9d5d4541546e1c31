pub mod NameLaws
pub mod TokenLaws
pub mod KindLaws
