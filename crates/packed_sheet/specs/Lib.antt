pub mod Packed
pub mod Packing
