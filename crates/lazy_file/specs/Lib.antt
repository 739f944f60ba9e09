pub mod DeviceTexts
pub mod Faults
pub mod KeptBlocks
pub mod Readings
pub mod SourceTexts
