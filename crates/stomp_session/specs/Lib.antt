pub mod Faults
pub mod Fitting
pub mod Headers
pub mod Outgoing
pub mod Parts
pub mod Replies
pub mod Requests
