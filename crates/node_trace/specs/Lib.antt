-- what only helps contracts
pub mod Placed
