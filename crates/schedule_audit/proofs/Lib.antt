pub mod Resting
pub mod Tallying
pub mod Going
pub mod Finding
pub mod Lawful
mod Examples
