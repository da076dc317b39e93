pub mod Compact
pub mod Written
pub mod FirstVersion
pub mod Inputs
pub mod Words
pub mod Steps
pub mod LineRows
pub mod OrderRows
mod Examples
