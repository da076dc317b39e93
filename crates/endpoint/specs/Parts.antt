-- What the private parts of a call do. Nobody who reads the promises needs it.
pub mod Handling
pub mod Receiving
