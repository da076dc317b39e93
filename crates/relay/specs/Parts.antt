-- What the private parts of a filling do. Nobody who reads the promises needs it.
pub mod Pages
pub mod News
