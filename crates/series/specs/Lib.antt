pub mod Turns
pub mod Series
pub mod Promises
