pub mod Accepted
pub mod Connecting
pub mod Faults
pub mod Mails
pub mod RepeatFaults
pub mod Repeating
pub mod Sessions
pub mod Texts
