pub mod Layout
pub mod Versions
pub mod Value
pub mod Spelling
pub mod Reading
pub mod Accepted
pub mod Looks
