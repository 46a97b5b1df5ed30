pub mod SetLemmas
pub mod PartitionLemmas
pub mod StepLemmas
pub mod BoardLemmas
pub mod LawLemmas
