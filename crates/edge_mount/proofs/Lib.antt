pub mod NodeLaws
pub mod ReasonLaws
pub mod TellsLaws
pub mod WholeLaws
