pub mod Entries
pub mod Operations
pub mod Ledgers
pub mod Series
pub mod Promises
pub mod Worked
