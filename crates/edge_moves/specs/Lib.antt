pub mod Sound
pub mod Relinks
pub mod Renewal
pub mod Writable
