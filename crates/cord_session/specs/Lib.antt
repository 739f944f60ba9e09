pub mod Slots
pub mod Commands
pub mod Applied
pub mod Sessions
pub mod Asked
pub mod Images
pub mod Edits
pub mod Origins
