pub mod Held
pub mod Rows
pub mod Forest
pub mod Nodes
pub mod LayoutLaws
pub mod Promise
