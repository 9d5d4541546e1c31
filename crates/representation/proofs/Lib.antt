pub mod Changes
pub mod Growing
pub mod InOrder
pub mod Ordered
pub mod Places
pub mod Preorder
pub mod Shows
pub mod Start
