pub mod Entity
pub mod EntityView
pub mod Fault
pub mod Number
pub mod Order
pub mod Parts
