pub mod Faults
pub mod Lives
pub mod Parts
pub mod Turns
