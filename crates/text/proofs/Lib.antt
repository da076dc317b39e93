pub mod Digits
pub mod Escapes
mod Examples
