pub mod IssuingLemmas
pub mod LineLemmas
pub mod SessionLemmas
pub mod SteppingLemmas
pub mod TranscriptLemmas
