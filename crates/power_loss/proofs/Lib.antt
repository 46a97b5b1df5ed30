pub mod LawLemmas
pub mod LeavingLemmas
