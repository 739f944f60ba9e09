pub mod HeldLemmas
pub mod CheckedImages
pub mod ToldRuns
