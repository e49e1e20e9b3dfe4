pub mod Refusals
pub mod Paths
pub mod Events
pub mod Descriptors
