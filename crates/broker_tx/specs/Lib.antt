pub mod Faults
pub mod First
pub mod Sizes
pub mod Transactions
