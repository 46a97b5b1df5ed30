pub mod Fields
pub mod PortState
pub mod Reading
pub mod Receiving
pub mod Refusals
pub mod RegisterTable
pub mod Writing
pub use Rattle.word_bits.specs.Places
