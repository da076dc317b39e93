mod Again
mod Keeping
mod Places
mod Repeated
mod Sameness
mod Sessions
