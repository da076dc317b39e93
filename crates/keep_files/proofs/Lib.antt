pub mod Reopenings
