pub mod Living
pub mod Turning
