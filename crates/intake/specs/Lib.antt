pub mod Counts
pub mod Ends
pub mod Passes
pub mod Rule
