pub mod Lookups
pub mod Knowing
pub mod Rows
pub mod Orders
