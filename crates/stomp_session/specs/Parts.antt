-- What only private functions speak of.
pub mod OutgoingView
pub mod Plain
pub mod Taking
