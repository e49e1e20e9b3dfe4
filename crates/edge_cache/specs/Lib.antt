pub mod Blocks
pub mod Kept
pub mod Places
pub mod Given
pub mod Cached
pub mod Calls
