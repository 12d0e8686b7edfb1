pub mod Bounds
pub mod Rises
