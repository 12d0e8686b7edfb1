pub mod Operations
pub mod Bytes
