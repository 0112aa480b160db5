pub mod Placed
pub mod Putting
