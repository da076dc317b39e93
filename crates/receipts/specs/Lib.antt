pub mod Fault
pub mod Books
pub mod Calls
