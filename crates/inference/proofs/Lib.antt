pub mod InferLaws
pub mod WalkLaws
