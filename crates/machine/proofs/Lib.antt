pub mod AllMoves
pub mod Stops
pub mod Accepted
pub mod Types
pub mod Locks
pub mod Positions
pub mod Decide
pub mod Counts
