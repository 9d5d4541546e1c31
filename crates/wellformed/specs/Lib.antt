pub mod Examining
