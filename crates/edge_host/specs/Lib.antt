pub mod HostClock
pub mod HostDisk
pub mod HostFolder
pub mod Streams
