pub mod JobsLemmas
pub mod ProgramLemmas
