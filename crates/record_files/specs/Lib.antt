-- what only helps contracts
pub mod Takings
