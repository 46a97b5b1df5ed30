pub mod ChangeLemmas
pub mod LevelLemmas
pub mod SectorLemmas
pub mod ShownLemmas
pub mod ZeroLemmas
