pub mod CopiedNodes
pub mod Filling
pub mod Growing
pub mod LeftLengths
pub mod LiteralRest
