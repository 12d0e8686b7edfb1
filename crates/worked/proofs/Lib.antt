pub mod Computed
pub mod Halves
pub mod Told
pub mod Runs
pub mod Worked
pub mod Example
pub mod Looks
