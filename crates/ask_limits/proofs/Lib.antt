pub mod Values
pub mod Amounts
pub mod Laws
pub mod DeclaredCount
pub mod Items
pub mod PassLaws
pub mod Between
pub mod WriteLaws
