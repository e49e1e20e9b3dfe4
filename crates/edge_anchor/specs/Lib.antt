pub mod Anchor
pub mod Medium
pub mod Opens
pub mod Stays
