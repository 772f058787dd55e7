-- what only helps contracts
pub mod Columns
pub mod Rows
