pub mod Folders
pub mod Making
