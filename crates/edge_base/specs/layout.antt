pub mod Bytes
pub mod Word
pub mod Sizes
pub mod Places
pub mod Spelling
pub mod Bitmap
