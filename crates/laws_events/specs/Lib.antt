pub mod Sitting
pub mod Writing
pub mod Three
pub mod Laws
