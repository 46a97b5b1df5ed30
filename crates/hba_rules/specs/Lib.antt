pub mod Rules
pub mod Writes
pub mod Commands
pub mod Lists
