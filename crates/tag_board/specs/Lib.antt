pub mod View
pub mod Partition
pub mod Steps
pub mod Board
pub mod Laws
