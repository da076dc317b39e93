pub mod Sitting
pub mod Cutting
pub mod Settling
pub mod Replying
pub mod Telling
pub mod Rows
pub mod Events
pub mod Threes
