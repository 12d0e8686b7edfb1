pub mod Places
pub mod Runs
pub mod Wraps
pub mod Laws
