pub mod Aged
pub mod Held
pub mod Index
pub mod Listed
pub mod Named
pub mod Places
pub mod Slots
pub mod Standing
