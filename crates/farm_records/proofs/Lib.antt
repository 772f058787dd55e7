pub mod Lines
pub mod Histories
pub mod Consuming
pub mod Names
pub mod Steps
pub mod Alone
pub mod Ranges
