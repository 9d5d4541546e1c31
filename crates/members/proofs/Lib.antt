pub mod LookupLaws
pub mod MemberLaws
pub mod CodeLaws
