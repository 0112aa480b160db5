pub mod Price
pub mod Prices
pub mod Priced
