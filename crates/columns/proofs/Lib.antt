pub mod Powers
pub mod Apart
pub mod Inside
