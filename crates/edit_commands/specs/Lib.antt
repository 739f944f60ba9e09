pub mod Codes
pub mod Session
pub mod Refusals
pub mod Terms
pub mod Building
pub mod HandedIn
pub mod Applying
