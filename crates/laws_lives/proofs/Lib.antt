pub mod Numerals
pub mod Sending
pub mod Writing
pub mod Living
mod Examples
