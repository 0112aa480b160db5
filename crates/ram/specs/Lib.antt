pub mod Writes
pub mod Tables
