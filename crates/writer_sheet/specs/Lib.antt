pub mod Writer
pub mod Puts
pub mod Three
pub mod Writings
pub mod Threes
