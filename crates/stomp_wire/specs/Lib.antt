pub mod Fault
pub mod Link
pub mod Memory
pub mod Pump
pub mod Stream
pub mod Travel
pub mod Wire
