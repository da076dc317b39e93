pub mod InMemory
pub mod Endings
pub mod Matches
pub mod Examples
pub mod EndExamples
