pub mod Accepting
pub mod Refused
