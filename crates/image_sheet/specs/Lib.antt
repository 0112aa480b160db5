pub mod Hex
pub mod Images
pub mod Covered
pub mod Imaging
