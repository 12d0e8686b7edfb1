pub mod Frames
pub mod Answers
pub mod Causes
pub mod Effects
pub mod Covered
pub mod Busy
pub mod Frozen
pub mod Promises
