pub mod Whole
pub mod Closings
pub mod Rests
pub mod Recorded
pub mod Keeping
pub mod Members
pub mod Following
pub mod Sendings
