mod Founded
mod Keeping
pub mod Arriving
mod Facts
mod Paths
mod SideStepping
mod Delivering
