pub mod Tables
pub mod Pools
pub mod Commands
pub mod Origins
pub mod Images
pub mod Keys
