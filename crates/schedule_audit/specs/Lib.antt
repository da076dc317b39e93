pub mod Agree
pub mod Looks
