pub mod Faults
pub mod Commands
