pub mod NodeLaws
pub mod ImapLaws
pub mod CutLaws
