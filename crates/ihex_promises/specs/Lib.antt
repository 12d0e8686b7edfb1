pub mod Named
pub mod Promises
pub mod Worked
