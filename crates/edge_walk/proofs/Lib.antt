pub mod StillLaws
pub mod TreeLaws
pub mod StepLaws
pub mod WayLaws
pub mod FindLaws
pub mod ThroughLaws
pub mod NameLaws
