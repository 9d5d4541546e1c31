pub mod OfferReplies
