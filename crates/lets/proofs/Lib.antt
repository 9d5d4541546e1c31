pub mod LetLaws
