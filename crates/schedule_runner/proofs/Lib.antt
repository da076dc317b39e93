pub mod Following
pub mod Composing
pub mod Founding
pub mod Righting
pub mod Lifting
pub mod Telling
pub mod Resting
pub mod Receiving
pub mod Journaling
pub mod Stepping
pub mod Advancing
mod Reading
pub mod Asking
mod ToldExamples
mod RoundExamples
mod LookExamples
mod WorldExamples
mod PathExamples
mod ShowExamples
mod GoodExamples
mod WireExamples
