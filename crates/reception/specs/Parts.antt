-- What only private functions speak of.
pub mod Letters
