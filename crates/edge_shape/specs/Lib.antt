pub mod Shape
pub mod Gone
pub mod Trees
pub mod Cutting
pub mod Trimmed
pub mod Where
pub mod Steps
pub mod Cut
