pub mod Given
pub mod Cuts
pub mod Digests
