pub mod WayForms
pub mod LinkLaws
pub mod KindLaws
pub mod OwnLaws
pub mod BlankLaws
pub mod DoneLaws
