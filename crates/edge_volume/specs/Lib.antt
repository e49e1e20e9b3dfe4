pub mod Stopped
pub mod Volume
pub mod Parts
pub mod Did
pub mod Nodes
