pub mod Turns
pub mod Reading
pub mod Batches
pub mod Runs
pub mod Cuts
pub mod Journals
