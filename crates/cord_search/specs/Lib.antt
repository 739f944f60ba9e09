pub mod Order
pub mod Pieces
pub mod Places
pub mod Reached
pub mod Stated
pub mod Faults
pub mod Skipped
pub mod Seeking
