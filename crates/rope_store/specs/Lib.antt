pub mod Additions
pub mod Refusals
pub mod Joining
pub mod Appending
pub mod Calls
