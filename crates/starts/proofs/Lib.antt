pub mod Searching
pub mod Lefts
pub mod Starting
