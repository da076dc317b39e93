pub mod Acted
pub mod AsPut
pub mod Counts
pub mod Kept
pub mod Known
pub mod Numbers
pub mod Orderly
pub mod Wrapped
mod RunExamples
mod Examples
