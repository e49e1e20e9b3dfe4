pub mod Nodes
pub mod Cut
