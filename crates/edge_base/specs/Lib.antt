pub mod outside
pub mod layout
pub mod tree
pub mod commands
