pub mod LikeLaws
pub mod SpanLaws
