pub mod Fault
pub mod Faults
pub mod JobsAgree
pub mod Picking
pub mod Program
pub mod Words
