mod Faults
mod Fronts
mod Kept
mod Lines
mod Questions
mod Recovered
mod Roots
mod RopeReads
