pub mod BlockLemmas
pub mod CandidateLemmas
pub mod PickLemmas
pub mod StateLaws
