pub mod TokenLaws
pub mod AmountLaws
