pub mod Outcomes
pub mod Questions
pub mod Answers
pub mod Spoken
pub mod Kept
pub mod Fronts
