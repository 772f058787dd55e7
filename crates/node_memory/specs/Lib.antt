-- what must be believed
pub mod Bytes
pub mod Effect
pub mod Marks
pub mod Words
pub mod Faults
-- what only helps contracts
pub mod Kept
pub mod Laws
