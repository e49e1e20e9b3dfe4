pub mod WordLaws
pub mod OrderLaws
pub mod NeedLaws
