pub mod Deeds
pub mod Arriving
pub mod Several
pub mod Stepping
pub mod Running
pub mod Contracts
pub mod Receiving
pub mod Grouping
pub mod Living
mod Examples
mod GroupExamples
mod LifeExamples
