pub mod Coded
pub mod Optional
pub mod Padding
pub mod Pattern
pub mod Repeating
