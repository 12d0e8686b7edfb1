pub mod Rows
pub mod Kinds
pub mod Rule
