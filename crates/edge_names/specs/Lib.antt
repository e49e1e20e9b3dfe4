pub mod Carried
pub mod Made
pub mod Linked
pub mod Unnamed
pub mod Moved
pub mod Stepped
