pub mod Words
pub mod Frame
pub mod Cause
pub mod Effect
pub mod Busy
pub mod Frozen
pub mod Promises
