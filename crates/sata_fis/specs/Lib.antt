pub mod Places
pub mod Fields
pub mod Payload
pub mod Layout
pub mod Spelling
pub mod Fault
pub mod Encoding
pub mod Command
