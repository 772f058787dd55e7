-- what must be believed
pub mod Asks
pub mod Lines
pub mod Sessions
-- what only helps contracts
pub mod Laws
