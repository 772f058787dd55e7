-- what must be believed
pub mod Passes
pub mod Services
pub mod Commands
pub mod Rooms
pub mod Domains
pub mod Closed
pub mod Restarts
pub mod Entering
pub mod Openings
pub mod Answers
-- what only helps contracts
pub mod Endings
pub mod PortMoves
pub mod Turns
