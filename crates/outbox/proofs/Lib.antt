pub mod Above
mod Letters
pub mod Numbering
pub mod Sending
