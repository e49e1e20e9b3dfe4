pub mod Faults
pub mod Below
