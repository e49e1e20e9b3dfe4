pub mod Reached
pub mod Spots
pub mod Ways
