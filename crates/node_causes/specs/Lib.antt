-- what must be believed
pub mod Causes
pub mod Explained
-- what only helps contracts
pub mod Passage
