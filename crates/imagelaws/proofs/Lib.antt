pub mod Sizes
pub mod Answers
pub mod Lines
pub mod Back
pub mod Once
pub mod Calls
