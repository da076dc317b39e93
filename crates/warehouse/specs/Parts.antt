-- What the definition of a stock is made of. Nobody who reads the promises does.
pub mod StockView
