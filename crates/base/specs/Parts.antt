-- What is kept beside a value so that work on it is quick. Nobody who reads the promises needs it.
pub mod Lead
