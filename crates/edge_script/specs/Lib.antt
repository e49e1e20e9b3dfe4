pub mod Numbers
pub mod Bytes
pub mod Flags
pub mod Verbs
pub mod Commands
pub mod Reading
pub mod Replies
