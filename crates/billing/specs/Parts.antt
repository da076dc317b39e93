-- What the definition of an account is made of. Nobody who reads the promises does.
pub mod AccountView
