pub mod Seeing
pub mod Moves
pub mod Storing
pub mod Taking
pub mod Putting
pub mod Glue
pub mod Folding
