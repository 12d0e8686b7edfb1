pub mod Lines
pub mod Times
