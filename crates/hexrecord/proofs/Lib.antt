pub mod Finding
pub mod Faults
