pub mod Words
pub mod Kept
pub mod Promises
