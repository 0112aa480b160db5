pub mod Fits
pub mod Sets
