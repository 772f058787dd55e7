-- what must be believed
pub mod Boot
pub mod Opening
pub mod Step
pub mod Seen
pub mod Messages
pub mod Steps
pub mod Laws
pub mod LinkNumbers
pub mod Delivered
-- what only helps contracts
pub mod Examined
