pub mod Above
pub mod Outcomes
