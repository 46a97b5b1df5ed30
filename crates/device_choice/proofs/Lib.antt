pub mod OrdersLemmas
pub mod TurnsLemmas
pub mod LawsLemmas
