pub mod Adding
pub mod Giving
pub mod Examples
