pub mod Dropped
pub mod Cuts
pub mod Through
