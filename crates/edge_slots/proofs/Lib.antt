pub mod BlockLaws
pub mod DirectoryLaws
mod SlotLaws
