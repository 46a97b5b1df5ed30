pub mod Walks
pub mod OverLemmas
pub mod PluggingLemmas
pub mod SteppingLemmas
