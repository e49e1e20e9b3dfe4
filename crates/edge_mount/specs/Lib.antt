pub mod Faults
pub mod Live
pub mod Mounted
pub mod Mounting
pub mod Rooms
