pub mod SpellingLaws
pub mod SetLaws
pub mod PositionLaws
pub mod CountLaws
pub mod ChainLaws
pub mod LayoutLaws
