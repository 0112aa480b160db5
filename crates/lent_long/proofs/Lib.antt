pub mod Sizes
pub mod Said
pub mod Sending
pub mod Words
