-- what only helps contracts
pub mod Timeline
pub mod Advance
