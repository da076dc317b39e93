pub mod Backoffs
pub mod Business
pub mod Faults
pub mod Input
pub mod Lives
pub mod Rows
pub mod Silences
