mod Lookup
pub mod Table
pub mod Kept
