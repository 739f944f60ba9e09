pub mod LooseValues
mod RopeSlotValues
mod AskedRopes
