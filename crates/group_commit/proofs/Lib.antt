mod Apart
mod Appending
mod Ends
mod Following
pub mod Reading
mod Steps
mod Gathering
pub mod Writing
