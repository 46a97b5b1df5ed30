pub mod ArgumentLemmas
pub mod CollectingLemmas
pub mod EntryLemmas
pub mod JudgedLemmas
pub mod MakingLemmas
pub mod NamingLemmas
pub mod OverLemmas
pub mod Walks
