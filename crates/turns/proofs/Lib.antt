pub mod Agreeing
pub mod Lowering
pub mod Following
pub mod Stretches
