pub mod Runs
pub mod GoodTables
pub mod InMemory
