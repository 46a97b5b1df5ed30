pub mod BlockLemmas
pub mod FetchLemmas
pub mod ProcessingLemmas
pub mod RunLemmas
