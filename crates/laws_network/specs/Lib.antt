pub mod Envelopes
pub mod SideSteps
pub mod Sides
pub mod Fair
pub mod Runs
