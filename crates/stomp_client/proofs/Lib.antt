pub mod Headers
pub mod Making
pub mod Writing
pub mod Serving
pub mod Examples
pub mod CallExamples
pub mod ServedExamples
