pub mod Idle
pub mod Instructions
pub mod Steps
