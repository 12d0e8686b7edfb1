pub mod Programs
mod Loads
pub mod Aims
mod Pieces
pub mod Ways
pub mod Laws
