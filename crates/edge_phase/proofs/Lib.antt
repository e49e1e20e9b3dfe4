pub mod OpenedLaws
pub mod PhaseLaws
pub mod SparedLaws
pub mod TieLaws
