pub mod Changed
pub mod InOrder
pub mod Preorder
pub mod Shows
