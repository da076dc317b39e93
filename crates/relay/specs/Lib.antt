pub mod Fault
pub mod Marks
pub mod Filling
pub mod Knowing
pub mod Calls
pub mod Parts
