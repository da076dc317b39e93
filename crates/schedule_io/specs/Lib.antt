pub mod StoresFaults
pub mod RunFaults
pub mod Opened
pub mod InMemory
pub mod Written
pub mod Ends
pub mod Asked
pub mod Usage
