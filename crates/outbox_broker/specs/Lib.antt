pub mod Usage
pub mod Asked
pub mod Plans
