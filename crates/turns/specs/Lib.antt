pub mod Asking
pub mod Turns
