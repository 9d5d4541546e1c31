pub mod Access
pub mod CodeLaws
pub mod Search
