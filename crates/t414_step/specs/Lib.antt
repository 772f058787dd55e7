-- what must be believed
pub mod Registers
pub mod ChannelRows
pub mod Rows
pub mod Step
pub mod Answers
pub mod Steps
pub mod Instructions
-- what only helps contracts
pub mod Laws
pub mod Next
