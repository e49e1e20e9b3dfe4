pub mod Words
pub mod Reading
pub mod Orders
pub mod Needs
