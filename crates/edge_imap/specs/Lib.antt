pub mod Bitmaps
pub mod Search
pub mod Reading
pub mod Inodes
