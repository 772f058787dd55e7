pub mod Copies
pub mod Edge
pub mod Kept
pub mod Parts
pub mod Writes
