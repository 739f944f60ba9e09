pub mod HeldTexts
pub mod Verdicts
pub mod Answers
pub mod Opened
pub mod Runs
pub mod OriginRooms
