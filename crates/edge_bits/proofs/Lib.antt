mod BitLaws
pub mod WordLaws
