pub mod KindLaws
pub mod SearchLaws
pub mod FillLaws
