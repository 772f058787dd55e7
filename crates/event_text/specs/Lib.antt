-- what must be believed
pub mod Events
pub mod Entries
-- what only helps contracts
pub mod Requests
