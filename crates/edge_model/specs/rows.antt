pub mod Row
pub mod Points
pub mod Files
pub mod Space
pub mod Names
pub mod Descriptors
