pub mod Books
pub mod Faults
pub mod Known
pub mod Laws
pub mod Runs
pub mod Sizes
pub mod Steps
