pub mod HeldTexts
pub mod Verdicts
pub mod Answers
pub mod ToldRuns
pub mod ToldOrigins
