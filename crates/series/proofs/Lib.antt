pub mod Lending
pub mod Turns
pub mod Steps
pub mod Promises
