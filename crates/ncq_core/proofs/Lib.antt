pub mod MovingLemmas
pub mod DiskLemmas
pub mod PageLemmas
pub mod ReservedLemmas
pub mod TrafficLemmas
pub mod VerdictLemmas
