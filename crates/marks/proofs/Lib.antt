pub mod Greatest
pub mod Raisers
pub mod Steps
pub mod Sharing
pub mod Taken
pub mod Examples
