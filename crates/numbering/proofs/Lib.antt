pub mod Chains
pub mod Distinct
pub mod NumberLaws
pub mod Sorts
