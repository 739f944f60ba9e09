pub mod RopeSlots
pub mod Numbers
pub mod Made
pub mod Asked
pub mod Handles
