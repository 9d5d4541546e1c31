pub mod ClashLaws
pub mod CoverLaws
pub mod AgreementLaws
