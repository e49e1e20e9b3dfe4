pub mod MemberLaws
pub mod EditLaws
pub mod ByteLaws
pub mod FileLaws
pub mod SizeLaws
