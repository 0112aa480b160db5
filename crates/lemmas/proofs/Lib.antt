pub mod Tests
pub mod Order
pub mod Lists
pub mod Mapped
