pub mod Kept
pub mod KeptView
pub mod KeptLaws
pub mod Counts
pub mod Plain
