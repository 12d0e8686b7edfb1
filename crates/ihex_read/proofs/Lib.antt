pub mod Values
pub mod Lines
pub mod Whole
pub mod Faults
pub mod Walks
pub mod Answers
