pub mod Disk
pub mod State
pub mod Image
pub mod Memory
pub mod Slots
pub mod Sure
pub mod CandidateLaws
