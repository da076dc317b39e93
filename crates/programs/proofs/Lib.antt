pub mod Beginnings
pub mod GoodTables
pub mod InMemory
pub mod Going
