pub mod AskedLemmas
pub mod CommandLemmas
pub mod OptionLemmas
pub mod ValueLemmas
pub mod WalkLemmas
