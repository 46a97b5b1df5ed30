pub mod Fault
pub mod Refusals
pub mod Commands
pub mod Place
pub mod Transcript
