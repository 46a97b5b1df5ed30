pub mod TrimLemmas
pub mod UncorrectableLemmas
pub mod WideNameLemmas
pub mod HostLogLemmas
pub mod HostLogLaws
