pub mod Aged
pub mod Counting
pub mod Named
pub mod Numbered
pub mod Searches
pub mod Slots
pub mod Sorting
pub mod Touching
