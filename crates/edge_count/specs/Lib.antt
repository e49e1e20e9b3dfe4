pub mod Runs
pub mod Cuts
pub mod Frames
pub mod Beside
