mod SlotValues
mod Resuming
