pub mod RunBlockLaws
pub mod Standing
pub mod OfferLaws
