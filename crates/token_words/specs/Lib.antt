pub mod Items
pub mod Row
pub mod Whole
