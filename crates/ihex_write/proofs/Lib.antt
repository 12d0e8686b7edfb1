pub mod Stores
pub mod Digits
pub mod Records
pub mod Rows
pub mod Lengths
pub mod Ahead
