pub mod Escapes
pub mod Numerals
