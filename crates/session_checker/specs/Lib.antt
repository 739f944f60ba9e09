pub mod Codes
pub mod SourceRules
pub mod NodeRules
pub mod RevisionRules
pub mod Accepted
pub mod Faithful
pub mod Limits
pub mod Wanted
