pub mod Steps
pub mod ReadAs
pub mod HeldLocks
pub mod LockRules
pub mod Reach
pub mod Means
pub mod Traces
pub mod Counts
