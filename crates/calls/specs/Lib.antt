pub mod Address
pub mod Refusal
pub mod Lent
