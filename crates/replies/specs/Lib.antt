pub mod RunResults
