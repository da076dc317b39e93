pub mod Places
mod Examples
