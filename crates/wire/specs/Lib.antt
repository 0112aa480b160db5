pub mod Bytes
pub mod Benches
