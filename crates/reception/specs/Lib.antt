pub mod Faults
pub mod Replies
pub mod Answers
pub mod Deeds
pub mod Prepared
pub mod Draining
pub mod Parts
