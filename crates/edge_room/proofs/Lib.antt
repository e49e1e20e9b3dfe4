pub mod NamedLaws
pub mod JudgeLaws
