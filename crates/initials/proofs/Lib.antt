pub mod InitialLaws
