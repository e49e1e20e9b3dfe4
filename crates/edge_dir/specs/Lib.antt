pub mod Directory
pub mod Looked
pub mod Bounds
pub mod Written
pub mod Cleared
