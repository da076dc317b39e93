pub mod Group
pub mod Parts
