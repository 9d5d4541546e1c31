pub mod PerformsChoice
