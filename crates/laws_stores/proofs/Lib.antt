pub mod Doing
pub mod Founded
pub mod OneDeed
pub mod Keeping
pub mod Writing
pub mod Genuine
pub mod Beginning
pub mod Placed
mod Examples
