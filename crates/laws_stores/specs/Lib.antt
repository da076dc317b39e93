pub mod Sight
pub mod Good
pub mod Deeds
pub mod Writing
