-- What only private functions speak of.
pub mod Begun
pub mod Choosing
pub mod Dealings
pub mod Facts
pub mod Fates
pub mod Held
pub mod Queues
pub mod Storing
pub mod Undoing
pub mod Waiting
pub mod Whole
