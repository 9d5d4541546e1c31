pub mod Answers
pub mod ZeroLaws
pub mod ValueLaws
pub mod KindLaws
pub mod EachLaws
