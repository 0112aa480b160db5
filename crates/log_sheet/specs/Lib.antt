pub mod Records
pub mod Logs
pub mod Rescue
pub mod Worked
pub mod LogOrders
pub mod Rescuing
