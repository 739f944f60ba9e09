pub mod Table
pub mod Denotes
pub mod Path
pub mod Steps
pub mod Balance
pub mod Coded
pub mod Extends
