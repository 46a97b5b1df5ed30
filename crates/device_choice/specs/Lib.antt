pub mod Orders
pub mod Turns
pub mod Laws
