pub mod Dealing
pub mod Deciding
mod Examples
pub mod Feeding
pub mod Frames
pub mod More
pub mod Moving
pub mod Mails
pub mod Placing
pub mod Repeating
pub mod Rising
pub mod Serving
pub mod Sessions
pub mod Spelling
pub mod Texts
pub mod Writing
