-- What only private functions speak of.
pub mod Asked
pub mod Rising
pub mod Taking
