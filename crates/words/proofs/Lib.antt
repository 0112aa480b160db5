pub mod Fields
pub mod Bytes
pub mod Words
pub mod Bytewise
pub mod Stored
