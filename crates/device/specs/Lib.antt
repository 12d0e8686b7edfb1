pub mod Bits
pub mod Device
pub mod Status
