pub mod ChainLaws
pub mod TableLaws
pub mod LaidLaws
pub mod UnderLaws
pub mod ScopeLaws
pub mod KnownLaws
