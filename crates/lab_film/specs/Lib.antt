-- what only helps contracts
pub mod Frames
