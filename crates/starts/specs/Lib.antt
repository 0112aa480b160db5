pub mod Questions
pub mod Starts
