pub mod NodeLaws
pub mod BecomeLaws
pub mod HeadLaws
pub mod StandingLaws
pub mod SpaceLaws
pub mod FreshLaws
pub mod DirtyLaws
pub mod SessionLaws
