-- what must be believed
pub mod Listing
pub mod Plain
pub mod Runs
-- what only helps contracts
pub mod Kept
pub mod Answering
