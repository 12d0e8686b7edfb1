pub mod Kept
pub mod Promises
