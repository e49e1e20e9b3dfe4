pub mod Bytes
pub mod Answers
pub mod Rewritten
pub mod Shortened
pub mod Writing
