pub mod Flatten
pub mod Walks
pub mod Simulation
