pub mod LineLists
pub mod Holdings
pub mod Placing
pub mod Sound
pub mod Following
pub mod Examples
pub mod StockExamples
mod SoundExamples
mod FollowingExamples
mod WordExamples
