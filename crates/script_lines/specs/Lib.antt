-- what must be believed
pub mod Verbs
pub mod Words
pub mod Lines
pub mod Script
pub mod Faults
