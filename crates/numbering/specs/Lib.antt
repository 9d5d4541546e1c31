pub mod Chains
pub mod Numbers
