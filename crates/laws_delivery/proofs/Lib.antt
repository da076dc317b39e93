pub mod Moving
pub mod Propositions
pub mod Stepping
pub mod Running
pub mod Third
pub mod Three
pub mod Stranger
