pub mod Phases
pub mod Spared
