pub mod WorkedPlaces
pub mod WorkedRows
pub mod WorkedFaults
pub mod WorkedFrames
