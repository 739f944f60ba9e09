pub mod Codes
pub mod Pieces
pub mod Steps
pub mod Slots
pub mod Balancing
pub mod AnyForms
