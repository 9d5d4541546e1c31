pub mod Tables
pub mod Subtypes
pub mod Layouts
