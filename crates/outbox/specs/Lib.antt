pub mod Faults
pub mod Numbering
pub mod Rows
