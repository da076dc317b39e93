pub mod Bodies
pub mod Columns
pub mod FirstVersion
pub mod LineRows
pub mod OrderRows
pub mod Reading
pub mod Steps
pub mod Words
