pub mod Slots
pub mod Changes
pub mod Counts
pub mod Beside
pub mod Answers
