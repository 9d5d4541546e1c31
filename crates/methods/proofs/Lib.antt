pub mod MethodLaws
