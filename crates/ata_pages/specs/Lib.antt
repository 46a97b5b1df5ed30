pub mod Digits
pub mod IdentifyText
pub mod LogText
pub mod Output
pub mod Telling
