mod Lives
mod StateWords
mod Seats
