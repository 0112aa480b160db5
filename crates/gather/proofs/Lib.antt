pub mod Lows
pub mod Sides
pub mod Folds
pub mod Exchanged
pub mod Gathering
