pub mod EventLemmas
pub mod InterruptLemmas
pub mod LawLemmas
pub mod StateLemmas
