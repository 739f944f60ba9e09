pub mod Commands
pub mod Fields
pub mod Parts
pub mod Places
