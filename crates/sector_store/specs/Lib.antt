pub mod Blank
pub mod Layers
pub mod Reserved
pub mod Room
pub mod Shown
pub mod Slots
pub mod Zeroed
