pub mod Positions
pub mod Chains
pub mod Counting
pub mod Slots
pub mod Nodes
pub mod NodeRules
