-- what only helps contracts
pub mod Alone
