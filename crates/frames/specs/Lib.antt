pub mod Expecting
