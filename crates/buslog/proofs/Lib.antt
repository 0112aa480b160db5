pub mod Playing
pub mod Checked
pub mod States
pub mod Widths
pub mod Numbers
pub mod Room
pub mod Sent
