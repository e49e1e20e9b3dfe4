pub mod Headers
pub mod Writing
pub mod Pointers
pub mod Changes
