pub mod Characters
pub mod Meanings
pub mod Refusals
