pub mod Usage
pub mod Matches
