pub mod Given
pub mod Repacked
