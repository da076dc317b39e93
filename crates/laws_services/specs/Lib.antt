pub mod Services
pub mod Steps
pub mod Good
pub mod Frames
pub mod Lives
