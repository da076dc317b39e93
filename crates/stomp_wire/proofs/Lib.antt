pub mod Known
pub mod Journeys
pub mod Examples
pub mod CallExamples
