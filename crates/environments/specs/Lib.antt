pub mod Chains
pub mod Known
