pub mod Time
pub mod Output
pub mod Steps
