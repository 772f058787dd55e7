pub mod Splitting
pub mod Arguments
pub mod Readings
