pub mod Lines
pub mod Screen
pub mod Rows
pub mod KnownLines
pub mod StatedCells
pub mod HeldBytes
pub mod Showing
pub mod Texts
