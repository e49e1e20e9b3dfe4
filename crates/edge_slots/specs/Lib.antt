pub mod Slot
pub mod Block
