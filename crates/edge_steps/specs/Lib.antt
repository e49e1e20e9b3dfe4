pub mod Rules
pub mod Room
pub mod Session
pub mod Fresh
pub mod Listed
pub mod Naming
