pub mod Each
pub mod Range
