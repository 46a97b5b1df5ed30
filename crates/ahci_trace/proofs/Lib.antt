pub mod TextLemmas
pub mod NameLemmas
pub mod AsciiLemmas
pub mod LineLemmas
mod MapLemmas
pub mod ObjectLemmas
mod NewestLemmas
mod AreaLemmas
mod WriteLemmas
mod ClosingLemmas
