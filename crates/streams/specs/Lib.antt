pub mod Ends
pub mod Unread
pub mod Reading
pub mod Standing
pub mod Text
