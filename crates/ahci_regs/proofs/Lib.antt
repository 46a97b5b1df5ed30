pub mod FlagLemmas
pub mod LawLemmas
pub mod StateLemmas
