mod Lines
mod Batches
mod Runs
mod Cuts
mod Journals
pub mod Seen
