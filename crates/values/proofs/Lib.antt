pub mod ReadLaws
pub mod StoreLaws
pub mod BindingLaws
