mod Marking
mod Sending
mod Letters
mod Places
mod Due
pub mod Knowing
mod Passing
mod Firsts
mod Paging
mod Beginning
mod Examples
