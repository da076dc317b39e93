pub mod Slips
pub mod Moves
