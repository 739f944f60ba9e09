pub mod Fetched
pub mod Position
pub mod Runs
pub mod Steps
