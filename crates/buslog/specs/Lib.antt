pub mod Asked
pub mod Replays
