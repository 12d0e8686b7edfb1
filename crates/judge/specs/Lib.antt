pub mod Causes
pub mod Judging
pub mod Steps
pub mod Bare
pub mod Begins
