pub mod Kinds
pub mod Left
