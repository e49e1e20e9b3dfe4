pub mod Script
pub mod Feeds
pub mod Stream
pub mod Line
pub mod Session
pub mod Object
pub mod Turn
