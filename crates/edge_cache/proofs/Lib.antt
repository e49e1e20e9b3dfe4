pub mod SealLaws
pub mod PlaceLaws
pub mod GivenLaws
pub mod CacheLaws
