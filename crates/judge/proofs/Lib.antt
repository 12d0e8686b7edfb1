pub mod Causes
pub mod Leaves
pub mod Begins
mod Steps
pub mod Bare
