pub mod Split
pub mod Asked
