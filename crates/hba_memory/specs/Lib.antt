pub mod Runs
pub mod Processing
pub mod Gathering
pub mod Table
pub mod Blocks
pub mod DmaWrites
pub mod Reading
pub mod Laws
