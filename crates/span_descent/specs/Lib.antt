pub mod Counts
pub mod Leads
pub mod Steps
pub mod Descents
pub mod Trails
