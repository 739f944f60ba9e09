pub mod HereLaws
pub mod LeafCells
pub mod LeafParts
pub mod RopeBytes
pub mod RunLaws
pub mod RunPeriods
pub mod Spans
pub mod StepLaws
