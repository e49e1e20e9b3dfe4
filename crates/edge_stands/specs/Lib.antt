pub mod Stands
pub mod Dirtied
pub mod Session
