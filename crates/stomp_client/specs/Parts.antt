-- What only private functions speak of.
pub mod Names
