pub mod Spelling
pub mod Composing
pub mod Accepted
