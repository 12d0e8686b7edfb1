pub mod Search
pub mod Tells
