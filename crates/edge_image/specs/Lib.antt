pub mod Image
pub mod Ready
pub mod View
pub mod Opens
pub mod Room
pub mod Fresh
pub mod Formatted
