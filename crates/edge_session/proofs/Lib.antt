pub mod StreamLaws
pub mod LineLaws
pub mod ProgressLaws
pub mod RunLaws
pub mod TurnLaws
pub mod CloseLaws
