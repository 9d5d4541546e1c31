pub mod Asking
pub mod Marks
pub mod Exact
pub mod Derived
