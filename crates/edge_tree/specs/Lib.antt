pub mod Answers
pub mod Blank
pub mod Chains
pub mod Own
