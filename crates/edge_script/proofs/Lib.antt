pub mod Tests
pub mod NumberLaws
pub mod ByteLaws
pub mod FlagLaws
pub mod CommandLaws
pub mod SpellingLaws
pub mod CodeLaws
pub mod LimitLaws
