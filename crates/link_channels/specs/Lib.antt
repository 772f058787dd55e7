-- what must be believed
pub mod Links
pub mod Kinds
pub mod Waiting
pub mod Soft
pub mod Hard
pub mod Messages
pub mod Service
-- what only helps contracts
pub mod Laws
